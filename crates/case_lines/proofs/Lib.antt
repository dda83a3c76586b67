pub mod Tables
pub mod Turns
pub mod Onward
pub mod Places
pub mod Ranges

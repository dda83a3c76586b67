pub mod Calls
pub mod Lines
pub mod Takes

pub mod Joined
pub mod Kept
pub mod Frequencies
pub mod Needing
mod Valued

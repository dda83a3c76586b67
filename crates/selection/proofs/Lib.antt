pub mod Asked
pub mod Given
pub mod Kept

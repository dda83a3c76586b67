pub mod Views
pub mod Tallied
pub mod Lents
pub mod Moved

pub mod Comes
pub mod InRange

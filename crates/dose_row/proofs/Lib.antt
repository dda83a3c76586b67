pub mod Narrowed
pub mod Links
pub mod Whole

pub mod Lining
pub mod Parts

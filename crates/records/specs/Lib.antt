pub mod Ascii
pub mod Digits
pub mod Layout
pub mod File
pub mod Numbers
pub mod Parts

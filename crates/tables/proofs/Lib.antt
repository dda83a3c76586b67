pub mod Asked
pub mod FoundTold
pub mod Stretches
pub mod Units

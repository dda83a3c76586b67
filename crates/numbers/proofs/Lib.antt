pub mod Runs
pub mod ReadBack

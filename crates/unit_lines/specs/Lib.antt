pub mod Records
pub mod Machine
pub mod Feeding
pub mod Listing

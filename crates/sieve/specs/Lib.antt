pub mod Settled
pub mod Left
pub mod Matched
pub mod Needed

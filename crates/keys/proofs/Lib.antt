pub mod Without
pub mod Answers
pub mod RisingKeys
pub mod Visits
pub mod OneResult

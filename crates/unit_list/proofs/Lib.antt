mod Examples
pub mod Turned

pub mod Judged
pub mod Fitted
pub mod Suppressed

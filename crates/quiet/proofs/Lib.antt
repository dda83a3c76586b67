pub mod Looked
pub mod Judging
pub mod Links
pub mod FittingRuns

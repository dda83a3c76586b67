pub mod RowByRow
pub mod Soundly

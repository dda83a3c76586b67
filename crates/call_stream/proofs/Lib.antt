pub mod Finding
pub mod Ending
pub mod Moving
pub mod Taking
pub mod Pieces
pub mod Examples

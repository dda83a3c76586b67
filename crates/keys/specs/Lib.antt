pub mod Keys
pub mod Hits
pub mod Rising
pub mod Seen
pub mod Rows
pub mod Tables

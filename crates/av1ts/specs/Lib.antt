pub mod Units
pub mod Segments
pub mod Queueing
pub mod Sheets

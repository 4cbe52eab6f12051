pub mod Editions
pub mod Ending
pub mod Disagreeing

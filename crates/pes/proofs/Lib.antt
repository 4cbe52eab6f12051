pub mod Starts
pub mod Headers
pub mod Writing

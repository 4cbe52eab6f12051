pub mod Pmt
pub mod Answer
pub mod Parts
pub mod Writing

pub mod Extraction
pub mod Parts

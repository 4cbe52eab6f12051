pub mod Content
pub mod Answer
pub mod Parts
pub mod Theorems

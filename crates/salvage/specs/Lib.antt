pub mod Salvage
pub mod Parts
pub mod Theorems

pub mod Unit
pub mod Demand3
pub mod Answer
pub mod LateTuning
pub mod Parts

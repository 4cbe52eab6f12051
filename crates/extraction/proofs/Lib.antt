pub mod Stepping
pub mod Determined

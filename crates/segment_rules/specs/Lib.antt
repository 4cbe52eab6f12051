pub mod State
pub mod Rules
pub mod Check
pub mod Named
pub mod Lying
pub mod Comparison
pub mod Content

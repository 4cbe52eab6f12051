pub mod Content
pub mod Figures
pub mod Steps
pub mod Exact

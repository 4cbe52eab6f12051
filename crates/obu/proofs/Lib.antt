pub mod Lebs
pub mod Headers
pub mod Types
pub mod Steps
pub mod Meaning
pub mod Numbers
pub mod Orders

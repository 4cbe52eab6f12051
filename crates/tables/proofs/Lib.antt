pub mod Refining
pub mod Seeing
pub mod Classes
pub mod Counting
pub mod Reading
pub mod Mapping

pub mod Xor
pub mod Linear
pub mod Slicing
pub mod Rows
pub mod Entries
pub mod Appending
pub mod CheckValue

pub mod Closing
pub mod Forms
pub mod Accepting
pub mod Theorems
pub mod Loops
pub mod Tries

pub mod Clearing
pub mod Continuing
pub mod Counting
pub mod Looping
pub mod Passing

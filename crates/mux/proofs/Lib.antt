pub mod Going
pub mod Beginnings
pub mod Slotting
pub mod Placing
pub mod Ending

pub mod Cuts
pub mod Counts
pub mod States
pub mod Tabling
pub mod Fewest
pub mod Units
pub mod Reaching
pub mod Claims

pub mod Puts
pub mod Sectioning
pub mod Starting
pub mod Fitting

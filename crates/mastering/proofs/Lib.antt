pub mod Rounding
pub mod Values
pub mod Bounds
pub mod Readings
pub mod RoundTrip

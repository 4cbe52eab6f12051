pub mod Widths
pub mod RoundTrip

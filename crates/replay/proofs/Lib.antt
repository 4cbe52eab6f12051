pub mod Draining
pub mod States
pub mod Traces
pub mod Turns

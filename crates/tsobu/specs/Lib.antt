pub mod StartCodes
pub mod TsObu
pub mod Walk
pub mod Parts
pub mod Payloads

pub mod Packets
pub mod Sending
pub mod Claim

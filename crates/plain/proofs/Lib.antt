pub mod Places
pub mod Plains
pub mod Following

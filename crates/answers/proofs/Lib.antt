pub mod States
pub mod Queues

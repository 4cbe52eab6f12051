pub mod Answers
pub mod Rewriting
pub mod Salvaging
pub mod Replaying
pub mod Metadata
pub mod Queueing
pub mod Sheets

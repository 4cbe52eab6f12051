pub mod Fields
pub mod Sections
pub mod Programs
pub mod Passed
pub mod MapPid
pub mod Writing

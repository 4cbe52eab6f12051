pub mod Clean
pub mod Searching
pub mod Inserting
pub mod Laying
pub mod Dense

pub mod Beyond
pub mod Extracting
pub mod Firsts
pub mod Holding
pub mod Determined

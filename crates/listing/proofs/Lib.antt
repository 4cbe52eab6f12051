pub mod Decimals
pub mod Puttings
pub mod Walked
pub mod Texts
pub mod Printed
pub mod Loans
pub mod Again

pub mod Polynomial
pub mod Code

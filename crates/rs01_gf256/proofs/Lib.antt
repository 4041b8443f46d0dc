pub mod Laws
pub mod Logarithms

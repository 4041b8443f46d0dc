pub mod Work
pub mod Filling

pub mod Coefficients
pub mod Values
pub mod CodeLaws
pub mod Division
pub mod Linear
pub mod Syndromes
pub mod Difference

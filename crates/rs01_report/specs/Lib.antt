pub mod Runs
pub mod Maximal
pub mod Lines
pub mod Texts
pub mod Faults
pub mod Puts

pub mod Inputs
pub mod Restored
pub mod Finding
pub mod Parts
pub mod Given
pub mod Intact

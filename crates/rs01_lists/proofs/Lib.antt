pub mod Flats
pub mod Padding
pub mod Parts
pub mod Ranges

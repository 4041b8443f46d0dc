pub mod Sectors
pub mod Layout
pub mod Layer
pub mod Placing
pub mod Blocks
pub mod Extents
pub mod Outs

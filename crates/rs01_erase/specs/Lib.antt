pub mod Completion
pub mod PowerSums
pub mod LayerValue
pub mod Correcting
pub mod Restoring
pub mod Completed
pub mod Pattern

pub mod Counting
pub mod Keeping
pub mod Presence
pub mod Untold
pub mod Reaching

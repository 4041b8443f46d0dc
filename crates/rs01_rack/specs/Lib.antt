pub mod Rack
pub mod State
pub mod Asking
pub mod Counting
pub mod Seen

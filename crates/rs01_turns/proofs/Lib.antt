pub mod Unreads
pub mod Turning
pub mod Leading
pub mod Placing
pub mod Asking
pub mod Whole
mod Rows
pub mod Ending
pub mod Times
pub mod Layering
pub mod Stopping

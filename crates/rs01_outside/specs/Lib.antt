pub mod Causes
pub mod Files
pub mod DeskState
pub mod DriveView
pub mod DriveState
pub mod SinkState

pub mod Courses
pub mod Stops
pub mod Inputs
pub mod Settled
pub mod Steps

pub mod Generator
pub mod Plan
pub mod Faults
pub mod Steps
pub mod Answer
pub mod Showing

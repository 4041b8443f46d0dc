pub mod Register
pub mod Task
pub mod Columns

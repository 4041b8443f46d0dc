pub mod Better
pub mod Joining
pub mod Covering
pub mod Choosing

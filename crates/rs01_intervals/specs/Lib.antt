pub mod Runs
pub mod Summaries
pub mod Tree
pub mod Maximal

pub mod Grammar
pub mod Value
pub mod Line
pub mod Refusal
pub mod Command

pub mod Machine
pub mod Replay
pub mod Reached
pub mod Soundness
pub mod WindowLaws

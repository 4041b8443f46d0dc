pub mod Refusal
pub mod Tallied
pub mod Fullness
pub mod Report
pub mod Answer
pub mod Surveyed
pub mod Scan
pub mod Scanned

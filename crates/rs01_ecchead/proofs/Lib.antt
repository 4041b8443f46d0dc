pub mod ErasedLemmas
pub mod ConditionLemmas
mod RunLemmas
mod Zeros
mod Accepted
mod OpenedLemmas
pub mod Parts
mod RoundTrip
mod RecordedSums
pub mod ReadAgain
pub mod OwnBytes
pub mod Shapes

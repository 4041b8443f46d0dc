pub mod CrcLemmas
pub mod MarkerLemmas
mod ZeroLemmas
mod TableLemmas
mod ChecksumSteps

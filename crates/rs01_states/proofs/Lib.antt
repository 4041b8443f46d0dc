pub mod RangeLemmas
pub mod StateLemmas
pub mod LayerLemmas
pub mod TallyLemmas
pub mod SparedLemmas

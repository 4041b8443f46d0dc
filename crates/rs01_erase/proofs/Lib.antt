pub mod Elimination
pub mod PlaceLemmas
pub mod Completions
pub mod Found
pub mod ErasedPlaces
pub mod LayerValueLemmas
pub mod RestoringLemmas
pub mod Completing

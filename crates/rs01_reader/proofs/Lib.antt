mod NextLemmas
pub mod SpareLemmas
mod TakeLemmas
mod WholeLemmas
mod ReadLemmas
mod AskLemmas
mod OnLemmas
mod GiveLemmas
mod EndLemmas
mod CountLemmas

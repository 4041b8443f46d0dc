pub mod States
pub mod PutLemmas

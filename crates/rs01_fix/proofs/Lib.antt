mod FoundLemmas
mod ProgressLemmas
mod OrderLemmas
pub mod FixedLemmas
mod StandLemmas
pub mod CutLemmas
mod ToldLemmas
pub mod FileLemmas
pub mod ComesBack
mod GoesOn
mod Later
mod WindowLemmas
mod CourseLemmas
mod EngineLemmas
mod Ends

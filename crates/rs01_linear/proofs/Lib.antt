pub mod AskLemmas
mod CountLemmas
pub mod CourseLemmas
pub mod EndLemmas
mod FlushLemmas
mod JudgeLemmas
pub mod LaidLemmas
pub mod LastingLemmas
pub mod LinearLemmas
pub mod MarkLemmas
mod MediumLemmas
pub mod MixedLemmas
mod PassLemmas
mod PrepareLemmas
mod RunLemmas
mod StandLemmas
pub mod TellLemmas
pub mod RoseLemmas
mod SpareLemmas
pub mod StayLemmas
pub mod AnswerLemmas

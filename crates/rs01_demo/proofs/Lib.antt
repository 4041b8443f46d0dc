pub mod CountLemmas
mod Ends
mod GeneratorLemmas
mod NoMarkers
mod PlanLemmas
mod SetUpLemmas
mod StepLemmas
mod ToldLemmas
mod WholeLemmas

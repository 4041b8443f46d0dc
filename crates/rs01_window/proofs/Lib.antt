pub mod KeptLemmas
pub mod ListLemmas
pub mod SoundEvents
pub mod ReachedEvents
pub mod ReachedSounds
pub mod RunLemmas

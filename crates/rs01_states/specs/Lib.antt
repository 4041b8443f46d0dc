pub mod Sparing
pub mod SparingLaws
pub mod Tally

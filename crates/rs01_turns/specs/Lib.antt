pub mod Turns
pub mod Moments
pub mod Leads
pub mod Laws
pub mod Ends
pub mod Layers
pub mod Stops

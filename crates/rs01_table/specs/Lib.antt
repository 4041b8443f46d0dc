pub mod Views
pub mod Showing
pub mod Rule
pub mod Plays
pub mod Seats
pub mod Opening
pub mod Ending

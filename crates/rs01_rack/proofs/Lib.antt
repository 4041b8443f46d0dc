mod Numbers
pub mod Places
mod Told
mod Tries
mod Walk

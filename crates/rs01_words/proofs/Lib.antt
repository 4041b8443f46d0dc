mod Numbers
mod Ranges
mod PlaceLists
mod Steps
mod Refusals
mod DriveFaults
mod Answering
mod Names

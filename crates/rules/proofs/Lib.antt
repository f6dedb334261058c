pub mod Allots
pub mod Choosing
pub mod Finds
pub mod Steps
pub mod Walk

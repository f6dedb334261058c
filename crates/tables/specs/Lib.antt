pub mod Both
pub mod Calls
pub mod Listing
pub mod Meaning
pub mod Run
pub mod Slots
pub mod Stored

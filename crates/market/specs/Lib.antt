pub mod Fills
pub mod Covering
pub mod Outcome
pub mod Kept
pub mod Works
pub mod Journaled

pub mod Days
pub mod Shown
pub mod Verdicts

mod Members
pub mod Gate
mod Ranks
pub mod Sided
mod Accounts
mod Trades
mod Kept
pub mod Split
mod Fixing
mod Depths
mod Strike
mod Calls
pub mod Laws
pub mod Rooms
mod Homes
pub mod Places
pub mod Example
pub mod Flawed
mod Arrivals
pub mod Pinning
pub mod Journals
pub mod Leading
mod Refusing
pub mod Endings
pub mod Living
pub mod Terming

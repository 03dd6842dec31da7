pub mod Fault
pub mod Expiry
pub mod Losing
pub mod Planning
pub mod Unneeded
pub mod Removed
pub mod Emptying

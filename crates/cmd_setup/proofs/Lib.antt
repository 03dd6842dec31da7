mod Ends
mod Found
mod Prefixes
mod Heals
pub mod HealedPair
pub mod Readings
mod Idle
mod Begun

pub mod Ends
mod Written
mod Prefixes
pub mod CallEffects
mod Bracketing
pub mod Carried
pub mod PartEffects
pub mod Statuses
pub mod Follows
pub mod Idle
pub mod Talks

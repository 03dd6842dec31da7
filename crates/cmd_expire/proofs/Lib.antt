pub mod Moments
pub mod Prunings
pub mod Statuses
pub mod Followed
pub mod Changing

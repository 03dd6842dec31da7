mod Lists
mod Upgrades
pub mod Asked
pub mod Statuses

pub mod Fetching
pub mod Lawful

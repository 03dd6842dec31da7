pub mod Rehearsing
pub mod Lawful

pub mod Creating
pub mod Lawful

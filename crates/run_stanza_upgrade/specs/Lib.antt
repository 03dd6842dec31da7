pub mod Upgrading
pub mod Lawful

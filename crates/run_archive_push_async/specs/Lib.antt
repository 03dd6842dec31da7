pub mod Draining
pub mod Lawful

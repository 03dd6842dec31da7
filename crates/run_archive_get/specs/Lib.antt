pub mod Getting
pub mod Started
pub mod GettingThrough
pub mod Lawful

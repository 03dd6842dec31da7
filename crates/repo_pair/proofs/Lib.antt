pub mod Causes
pub mod HealsPair
pub mod Onward
pub mod Saved
pub mod Owned
pub mod Lasts

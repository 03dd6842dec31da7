pub mod Halts
mod Ancestors
mod Labels
mod Searches
mod Causing
pub mod Represented

pub mod Labels
pub mod Condemned
pub mod Descent
pub mod Needed
pub mod Known

pub mod Beside
pub mod Trace
pub mod Played

pub mod Apart
pub mod Named
pub mod Beside
pub mod Stays
pub mod Opened
pub mod Kept
pub mod Played

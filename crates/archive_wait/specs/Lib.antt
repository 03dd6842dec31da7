pub mod Stored
pub mod TurnsDone
pub mod Causes

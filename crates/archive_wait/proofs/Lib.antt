mod Held
mod Coming
pub mod EachImage
mod Sounds
pub mod Folds
pub mod Marks
mod Turns
mod Waits
pub mod Backups

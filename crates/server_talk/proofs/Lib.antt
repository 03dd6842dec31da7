pub mod Reading
pub mod Runs
pub mod Columns
pub mod Telling
pub mod Sizes
pub mod Ends
pub mod Startup
mod Replies
mod Parted

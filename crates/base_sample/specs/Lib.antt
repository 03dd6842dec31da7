pub mod Bytes
pub mod Calls
pub mod Folder
pub mod Having
pub mod Stops

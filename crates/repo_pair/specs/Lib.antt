pub mod Fault
pub mod Member
pub mod Causes
pub mod Reading
pub mod Writes

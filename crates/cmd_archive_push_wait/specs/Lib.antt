pub mod Faults
pub mod Leaving
pub mod Causes
pub mod Received
pub mod Pushing
pub mod Texts
pub mod Between

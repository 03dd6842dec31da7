pub mod Restoring
pub mod Lawful
pub mod Asking
pub mod Code

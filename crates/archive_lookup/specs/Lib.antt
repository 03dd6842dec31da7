pub mod Stored
pub mod Causes
pub mod Fault
pub mod Paths
pub mod Listing
pub mod OnlyReads
pub mod Ends
pub mod Turns

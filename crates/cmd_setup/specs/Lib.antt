pub mod Calls
pub mod Folder
pub mod Readies
pub mod Taking
pub mod Stages
pub mod Settled

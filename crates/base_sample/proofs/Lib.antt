pub mod Paths
pub mod Holding
pub mod Changed

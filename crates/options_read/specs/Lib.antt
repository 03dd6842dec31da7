pub mod Commands
pub mod Faults
pub mod Filled
pub mod Paths
pub mod Settings
pub mod Sources
pub mod Views
pub mod Words

pub mod WalNames
pub mod Logged
pub mod Doings
pub mod Stores
pub mod StoreCauses
pub mod Opened
pub mod Refusals
pub mod Putting

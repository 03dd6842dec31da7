mod Talks
mod Creates
pub mod Undone
pub mod Statuses
pub mod OneCluster
pub mod Servers

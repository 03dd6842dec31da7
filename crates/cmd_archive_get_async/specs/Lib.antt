pub mod Names
pub mod Fetching
pub mod Taking
pub mod Following
pub mod Getting
pub mod FollowUp
pub mod Between

pub mod Looked
pub mod Chains
pub mod Waiting
pub mod Ended
pub mod Taken
pub mod Commanded
pub mod Receiving
pub mod Statuses

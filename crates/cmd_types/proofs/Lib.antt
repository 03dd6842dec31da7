pub mod Lifted
pub mod Counts
pub mod Doing
pub mod Places
pub mod Besides
pub mod After
pub mod Statuses

pub mod Within
pub mod Halted
pub mod Fetched
mod Looked
mod Taken
pub mod Summed
pub mod Alone
pub mod Handed
pub mod Receipts
pub mod Fetches
pub mod Served
pub mod Followed

mod Cleared
pub mod Marked
pub mod Receipts
mod OnlyReads
mod Middle
mod Renamed

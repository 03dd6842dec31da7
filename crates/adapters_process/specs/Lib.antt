pub mod Counts
pub mod Tail

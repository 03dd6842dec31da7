pub mod Writing
pub mod Signs
pub mod Parted
pub mod Numbers
pub mod Fields
pub mod Histories

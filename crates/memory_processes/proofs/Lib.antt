pub mod Receipts
pub mod Pushed
pub mod Known

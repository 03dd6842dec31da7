pub mod Fault
pub mod Agree
pub mod Foreign

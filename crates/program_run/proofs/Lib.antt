mod Configured
mod Names
mod AskedOnce
mod InForce
pub mod Lawful
pub mod Refused
mod Each
mod Answered
mod Unused
pub mod InForm
pub mod Workers

pub mod Rules
pub mod Texts
pub mod Faults
pub mod Pruning
pub mod FollowUp
pub mod Changing

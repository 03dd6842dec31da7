pub mod History
pub mod Moments
pub mod Targets
pub mod Views

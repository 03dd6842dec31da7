pub mod Asked
pub mod Refusals
pub mod Configuring
pub mod Given
pub mod Answers
pub mod Ranges

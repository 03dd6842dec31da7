pub mod Writing
pub mod Answers
pub mod Opening
pub mod Receiving
pub mod Serving
pub mod Parts

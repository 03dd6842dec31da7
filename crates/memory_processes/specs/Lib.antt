pub mod Pushing
pub mod Others

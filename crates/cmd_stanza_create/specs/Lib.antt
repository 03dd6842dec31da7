pub mod Server
pub mod Deciding
pub mod Talking
pub mod Creating
pub mod Texts

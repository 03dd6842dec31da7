pub mod Fault
pub mod Still
pub mod ByteSource
pub mod Pushes
pub mod Pushing
pub mod Getting

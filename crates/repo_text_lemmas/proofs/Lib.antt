pub mod Archives
pub mod Entries
pub mod Lists
pub mod Logs
pub mod Files
pub mod Manifests

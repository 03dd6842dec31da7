pub mod Stops
pub mod Searches
mod ServedPaths
pub mod Folders
mod Passes
pub mod Left
pub mod Fetches
pub mod Archived
pub mod LookedFor
pub mod Refusals

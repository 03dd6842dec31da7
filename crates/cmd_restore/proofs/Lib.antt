pub mod Statuses
mod Fetch
mod Listings
mod Links
mod Causing
mod Giving

pub mod Written
pub mod Filled
pub mod Parted
pub mod BytesKnown
pub mod ItemKnown
pub mod JobKnown
pub mod Received
pub mod Served

pub mod Getting
pub mod Serving
pub mod Looking
pub mod Texts
pub mod Words
pub mod ByOrder

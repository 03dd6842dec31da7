pub mod Views
pub mod Ancestries
pub mod Loading
pub mod Choosing
pub mod Choices
pub mod Judging
pub mod Texts

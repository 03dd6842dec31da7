pub mod Texts
pub mod NoFloats
pub mod Sections
mod EntryLines
mod Ends
mod ReportNames
mod EndNames
mod Reported

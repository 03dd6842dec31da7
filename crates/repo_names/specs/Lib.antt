pub mod Next
pub mod Lsn
pub mod Header
pub mod Spans
pub mod Calendar
pub mod Faults
pub mod Labels

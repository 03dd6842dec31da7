pub mod Reading
pub mod Entries
pub mod History
pub mod ArchiveForm
pub mod BackupForm

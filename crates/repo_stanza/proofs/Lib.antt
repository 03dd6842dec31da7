mod Refused
pub mod Saves
mod Owned
pub mod NewStanza
pub mod Settled
pub mod Alikes
pub mod OneBackup
pub mod ManifestKept
mod HealedPair
pub mod Lengths
mod Shorter
mod Judged
mod PairValues
mod Looked
mod SameStanza
mod LabelTexts
mod Leftovers
mod Longer
mod Advanced
mod Nexts
mod Upgradings
mod SavedTexts

mod PartEffects
mod Through

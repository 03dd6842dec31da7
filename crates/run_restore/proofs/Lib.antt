mod PartEffects
mod Orders

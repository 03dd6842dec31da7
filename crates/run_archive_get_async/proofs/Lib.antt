mod PartEffects

mod PartEffects
mod QueueEffects

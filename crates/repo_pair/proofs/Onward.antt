-- What one call leaves of a device, and then another.
use Rattle.std.proofs.Common.{◌≡◌, ◌≤◌, ◌+◌, ℕ, min, refl, ◌∙◌, arith}
use Rattle.base_devices.specs.States.{DiskState, CallsProperly, OnlyReads}
use Rattle.base_devices.specs.Cause.{Rises}

pub still : (a : DiskState) → CallsProperly a a
still a = record { opened = refl; proper = refl; later = omega arith }

pub looked : (a b : DiskState) → OnlyReads a b → CallsProperly a b
looked a b p = record { opened = p.opened; proper = p.proper; later = p.later }

pub frame_on : (a b c : DiskState) → CallsProperly a b → CallsProperly b c → CallsProperly a c
frame_on a b c p q = record { opened = q.opened ∙ p.opened; proper = q.proper ∙ p.proper; later = omega (arith, p.later, q.later) }

-- a count that rises after a call that doesn't lower it
capped : (end a b c : ℕ) → a ≤ b → min (b + 1) end ≤ c → min (a + 1) end ≤ c
capped end a b c p q = omega arith

pub rises_on : (a b c : ℕ) → a ≤ b → Rises b c → Rises a c
rises_on a b c p q = capped _ a b c p q

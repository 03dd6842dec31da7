-- Counts of faults.
use Rattle.std.proofs.Common.{◌≤◌, ℕ, arith}
use Rattle.base_devices.specs.Cause.{Rises}

-- a count that rose later rose
pub rises_from : (a b c : ℕ) → a ≤ b → Rises b c → Rises a c
rises_from a b c le h = omega (arith, le, h)

pub rises_to : (a b c : ℕ) → b ≤ c → Rises a b → Rises a c
rises_to a b c le h = omega (arith, le, h)

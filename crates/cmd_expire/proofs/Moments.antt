-- By which moment the rules may be read.
use Rattle.std.proofs.Common.{inl, inr, ℕ, zero, refl, arith}
use Rattle.std.specs.Prelude.{◌≤◌}
use Rattle.base_devices.specs.States.{ClockState}
use Rattle.expire_rules.specs.declared.rules.FullRule.{FullRule}
use Rattle.expire_rules.specs.declared.rules.FullRule.TheVariants.{Unset, Count, Days}
use Rattle.cmd_expire.specs.Pruning.{IsMoment, IsMomentIn, ShowsMoment}

-- a moment by which the rules may be read
pub some_moment : (full : FullRule) (first last : ℕ) → (moment : ℕ) × IsMomentIn full first last moment
some_moment Unset first last = (zero, refl)
some_moment (Count n) first last = (zero, refl)
some_moment (Days n) first last = (first, (omega arith, inl refl))

-- the one that the clock showed
pub shown_in : (full : FullRule) (clock new_clock : ClockState) (moment : ℕ) → ShowsMoment full clock new_clock moment → IsMomentIn full clock.least new_clock.least moment
shown_in Unset clock new_clock moment h = h
shown_in (Count n) clock new_clock moment h = h
shown_in (Days n) clock new_clock moment h = (h.later, inr h.least)

-- none before the least second that the clock might show
pub moment_from : (full : FullRule) (first last moment : ℕ) → IsMomentIn full first last moment → IsMoment full first moment
moment_from Unset first last moment h = h
moment_from (Count n) first last moment h = h
moment_from (Days n) first last moment h = h.0

-- in a longer time
pub moment_within : (full : FullRule) (first second last moment : ℕ) → first ≤ second → second ≤ last → IsMomentIn full second last moment → IsMomentIn full first last moment
moment_within Unset first second last moment le after h = h
moment_within (Count n) first second last moment le after h = h
moment_within (Days n) first second last moment le after (low, inl same) = (omega (arith, le, low), inr (omega (arith, after, same)))
moment_within (Days n) first second last moment le after (low, inr high) = (omega (arith, le, low), inr high)

-- What stays synced.
use Rattle.std.specs.Prelude.{◌≡◌, false}
use Rattle.std.proofs.Common.{arith}
use Rattle.base_devices.specs.Content.{Name, Content}
use Rattle.base_devices.specs.Moments.{View, is_unsynced}
use Rattle.base_devices.specs.Crash.{IsTemporary, Crash}

-- a lasting name that wasn't unsynced isn't after the call
pub still_synced : (S : Content → Content → Type 0) (a b : View) (n : Name) → Crash S a b → ¬ IsTemporary n → is_unsynced a n ≡ false → is_unsynced b n ≡ false
still_synced S a b n p apart h = p.synced b.moment n p.later (omega arith) apart h

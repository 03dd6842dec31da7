-- Names whose bytes are durable. Own.
use Rattle.std.specs.Prelude.{◌≡◌, Bool, true, false}
use Rattle.base_devices.specs.Content.{Name, Value, HasBytes, Holds}
use Rattle.base_devices.specs.Moments.{View, MayKeep, is_unsynced}

-- A crash leaves each of these names that has bytes with exactly these.
pub record IsSealed (own : Name → Bool) (v : View) : Type 0 where
  pub synced : (n : Name) → own n ≡ true → HasBytes v.now n → is_unsynced v n ≡ false
  pub only : (n : Name) (x : Value) → own n ≡ true → HasBytes v.now n → MayKeep v n x → Holds v.now n x

-- so it is at one name, whatever it has
pub record IsSealedAt (name : Name) (v : View) : Type 0 where
  pub is_synced_at : is_unsynced v name ≡ false
  pub only_at : (x : Value) → MayKeep v name x → Holds v.now name x

-- Places that were opened.
use Rattle.std.proofs.Common.{List, Result, Ok, Err, inr}
use Rattle.std.specs.Prelude.{OnOk}
use Rattle.base_devices.specs.Content.{Name}
use Rattle.base_devices.specs.States.{IsOpened, OpensOnly, Opens}

module _ {T E : Type 0} (place : Name) (old new : List Name) where
  pub opens_only : (result : Result T E) → Opens result place old new → OpensOnly place old new
  opens_only (Ok x) opens = inr opens
  opens_only (Err e) opens = opens

  pub opens_ok : (result : Result T E) → Opens result place old new → OnOk result (IsOpened place old new)
  opens_ok (Ok x) opens = opens
  opens_ok (Err e) opens = tt

pub ok_both : {T E P Q R : Type 0} (result : Result T E) → (P → Q → R) → OnOk result P → OnOk result Q → OnOk result R
ok_both (Ok x) f p q = f p q
ok_both (Err e) f p q = tt

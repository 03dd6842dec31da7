-- What a change of one node leaves at each path.
use Rattle.std.proofs.Common.{ℕ, Bool, true, false, ◌≡◌, ◌≢◌, ◌⊎◌, inl, inr, ⊎_elim, ◌≤◌, refl, sym, ap, ◌∙◌, subst, arith, Option, Some, None, option_map, Result, Ok, Err, bytes_eq, cond}
use Rattle.std.specs.Prelude.{IfSome, IsErrOf}
use Rattle.std.proofs.lemmas.Grind.{common_steps}
use Rattle.std.proofs.lemmas.Slice.Eq.{bytes_eq-Decides}
use Rattle.base_devices.specs.declared.device_error.DeviceError.{DeviceError}
use Rattle.base_devices.specs.declared.device_error.DeviceError.TheVariants.{Failed}
use Rattle.base_devices.specs.Cause.{HasCause, Rises}
use Rattle.base_devices.specs.Content.{Name, at}
use Rattle.base_devices.specs.DataFolder.{Held, Nodes, file_bytes, with_node, ChangesTree}
use Rattle.restore_steps.specs.Clearing.{HasNone, StaysNone}

pub set_other : (name : Name) (x : Option Held) (f : Nodes) (q : Name) → q ≢ name → with_node name x f q ≡ f q
set_other name x f q apart = grind (arith, common_steps, bytes_eq-Decides name q)

pub set_same : (name : Name) (x : Option Held) (f : Nodes) → with_node name x f name ≡ x
set_same name x f = grind (arith, common_steps, bytes_eq-Decides name name)

-- a node that is no file, at whatever path
set_none : (b : Bool) (x y : Option Held) → file_bytes x ≡ None → file_bytes y ≡ None → file_bytes (cond b x y) ≡ None
set_none true x y p q = p
set_none false x y p q = q

none_set : (q path : Name) (x : Option Held) (o : Option Nodes) → file_bytes x ≡ None → StaysNone q o (option_map (with_node path x) o)
none_set q path x None none was = tt
none_set q path x (Some f) none was = set_none (bytes_eq path q) x (f q) none was

pub none_changes : {T E : Type 0} (result : Result T E) (q path : Name) (x : Option Held) (old new : Option Nodes) → file_bytes x ≡ None → ChangesTree result (with_node path x) old new → StaysNone q old new
none_changes (Ok r) q path x old new none h was = subst (HasNone q) (sym h) (none_set q path x old none was)
none_changes (Err e) q path x old new none h was = subst (HasNone q) (sym h) was

pub none_at : (q : Name) (old new : Option Nodes) → at q new ≡ at q old → StaysNone q old new
none_at q None None e was = tt
none_at q None (Some g) e was = let h : ◌≡◌ {A = Option (Option Held)} (Some (g q)) None = e in cc
none_at q (Some f) None e was = tt
none_at q (Some f) (Some g) e was = let h : ◌≡◌ {A = Option (Option Held)} (Some (g q)) (Some (f q)) = e in let same : g q ≡ f q = cc in ap file_bytes same ∙ was

-- a count that rose stays so
rises_later : (f g h : ℕ) → f ≤ g → Rises g h → Rises f h
rises_later f g h le rose = grind arith

pub cause_on : {T : Type 0} (a b c : ℕ) (result : Result T DeviceError) → a ≤ b → HasCause b c result → HasCause a c result
cause_on a b c result le h = record { later = omega (arith, le, h.later); failed = λ is. rises_later a b c le (h.failed is) }

-- The parts of a moment's text, as they are found.
use Rattle.std.proofs.Common.{◌≡◌, ℕ, ◌≤◌, Option, Some, None, true, ◌++◌, sym, ◌∙◌}
use Rattle.std.specs.Prelude.{IfSome, IfNone}
use Rattle.base_devices.specs.States.{last_second}
use Rattle.base_model.specs.Text.{Text}
use Rattle.restore_target.specs.Moments.{written, HasNoSign, begins_with_sign, offset_text, IsMomentText}
use Rattle.restore_target.proofs.Writing.{same_written}
use Rattle.restore_target.proofs.Signs.{same_parts, part_no_sign, offset_begins}

module _ (text : Text) (second : ℕ) (m : IsMomentText text second) (clock : ℕ) (rest : Text) (h : clock ≤ last_second) (is : text ≡ written clock ++ rest) where
  pub clock_found : (clock ≡ m.clock) × (rest ≡ m.part ++ offset_text m.offset)
  clock_found = same_written clock m.clock rest (m.part ++ offset_text m.offset) h m.within (sym is ∙ m.is)

  pub parts_found : (part following : Text) → (rest ≡ part ++ following) × HasNoSign part × (begins_with_sign following ≡ true) → (part ≡ m.part) × (following ≡ offset_text m.offset)
  parts_found part following p = same_parts part m.part following (offset_text m.offset) p.1 (part_no_sign m.part m.is_part) p.2 (offset_begins m.offset) (sym p.0 ∙ clock_found.1)

pub if_some : {A : Type 0} (o : Option A) (P Q : A → Type 0) → ((a : A) → P a → Q a) → IfSome o P → IfSome o Q
if_some (Some a) P Q f h = f a h
if_some None P Q f h = tt

pub if_none : {A : Type 0} (o : Option A) (P Q : Type 0) → (P → Q) → IfNone o P → IfNone o Q
if_none (Some a) P Q f h = tt
if_none None P Q f h = f h

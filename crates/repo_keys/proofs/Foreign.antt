-- Names that are among these, and the fault of a section that has none of them.
use Rattle.std.proofs.Common.{◌≡◌, inl, inr, Bool, true, false, List, [], ◌∷◌, refl, sym, ◌∙◌, subst}
use Rattle.std.specs.Prelude.{bytes_eq, ◌||◌}
use Rattle.std.specs.List.{list_any}
use Rattle.std.proofs.lemmas.Slice.Eq.{bytes_eq-Decides}
use Rattle.serde_json.specs.Data.{Data}
use Rattle.base_model.specs.Text.{Text, In}
use Rattle.base_model.specs.InfoText.{Section}
use Rattle.repo_keys.specs.Foreign.{IsForeignKey}

either : (x n : Text) (b : Bool) → bytes_eq x n ≡ b → (q : Bool) (xs : List Text) → (b || q) ≡ true → (q ≡ true → In n xs) → In n (x ∷ xs)
either x n true e q xs on h = inl (sym ((bytes_eq-Decides x n).0 e))
either x n false e q xs on h = inr (h on)

neither : (x n : Text) (b : Bool) → bytes_eq x n ≡ b → (q : Bool) (xs : List Text) → (b || q) ≡ false → (q ≡ false → ¬ In n xs) → ¬ In n (x ∷ xs)
neither x n true e q xs off h k = cc
neither x n false e q xs off h (inl same) = let u : ◌≡◌ {A = Bool} false true = sym e ∙ (bytes_eq-Decides x n).1 (sym same) in cc
neither x n false e q xs off h (inr k) = h off k

pub among : (names : List Text) (n : Text) → list_any (λ x. bytes_eq x n) names ≡ true → In n names
among [] n on = cc
among (x ∷ xs) n on = either x n (bytes_eq x n) refl (list_any (λ y. bytes_eq y n) xs) xs on (λ h. among xs n h)

pub not_among : (names : List Text) (n : Text) → list_any (λ x. bytes_eq x n) names ≡ false → ¬ In n names
not_among [] n off h = h
not_among (x ∷ xs) n off h = neither x n (bytes_eq x n) refl (list_any (λ y. bytes_eq y n) xs) xs off (λ e. not_among xs n e) h

-- what holds of each key of a section with another name holds of the fault's
pub foreign_as : (names : List Text) (ss : List Section) (P : Text → Text → Type 0) → ((s : Section) (key : Text) (d : Data) → In s ss → ¬ In s.name names → In (key, d) s.keys → P s.name key) → (section key : Text) → IsForeignKey names ss section key → P section key
foreign_as names ss P each section key k = subst (λ (n : Text). P n key) (sym k.named) (each k.at key k.value k.foreign.0 k.foreign.1 k.holds)

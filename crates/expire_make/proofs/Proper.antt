-- Listed backups are in line: each label is there once, and a prior comes before its backup.
use Rattle.std.proofs.Common.{◌≡◌, ◌≢◌, ⊎_elim, inl, inr, true, List, [], ◌∷◌, ◌++◌, map, Option, Some, None, refl, ◌∙◌, sym, subst, ℕ}
use Rattle.std.specs.Prelude.{IfSome, Any}
use Rattle.std.proofs.lemmas.Bool.{and_parts}
use Rattle.base_devices.specs.Order.{is_before, are_after, are_in_order}
use Rattle.base_model.specs.declared.labels.Label.{Label}
use Rattle.base_model.specs.Text.{In}
use Rattle.base_model.specs.Names.{label_text}
use Rattle.base_model.specs.InfoFiles.{IsLabel, AreListed, IsBackupInfo}
use Rattle.base_model.specs.Values.{Entry, BackupInfo}
use Rattle.archive_lookup.proofs.Orders.{not_itself}
use Rattle.archive_lookup.proofs.Picked.{each_after}
use Rattle.expire_rules.specs.Descent.{AreInLine}
use Rattle.expire_rules.proofs.Lists.{in_append, any_in}

-- each of the first differs from each of the others
abbrev Apart : List Entry → List Entry → Type 0
Apart earlier es = (p : Entry) → In p earlier → (x : Entry) → In x es → p.label ≢ x.label

after_apart : (e : Entry) (es : List Entry) → are_in_order (map (λ (x : Entry). label_text x.label) (e ∷ es)) ≡ true → (x : Entry) → In x es → e.label ≢ x.label
after_apart e es order x at same =
    let before = each_after (λ (y : Entry). label_text y.label) (label_text e.label) es order x at in
    not_itself (label_text e.label) (subst (λ (l : Label). is_before (label_text e.label) (label_text l) ≡ true) (sym same) before)

rest_order : (e : Entry) (es : List Entry) → are_in_order (map (λ (x : Entry). label_text x.label) (e ∷ es)) ≡ true → are_in_order (map (λ (x : Entry). label_text x.label) es) ≡ true
rest_order e [] h = refl
rest_order e (x ∷ xs) h = (and_parts (is_before (label_text e.label) (label_text x.label)) (are_after (label_text x.label) (map (λ (y : Entry). label_text y.label) xs)) h).1

prior_of : (earlier : List Entry) (o : Option Label) (l : Label) → o ≡ Some l → IfSome o (λ l. IsLabel l × Any (λ (p : Entry). p.label ≡ l) earlier) → (p : Entry) × In p earlier × (p.label ≡ l)
prior_of earlier None l e h = let no : ◌≡◌ {A = Option Label} None (Some l) = e in cc
prior_of earlier (Some m) l e h =
    let is : ◌≡◌ {A = Option Label} (Some m) (Some l) = e in
    let same : m ≡ l = cc in
    let (p, at, of) = any_in (λ (p : Entry). p.label ≡ m) earlier h.1 in
    (p, at, of ∙ same)

proper_from : (n : ℕ) (earlier es : List Entry) → AreListed n earlier es → are_in_order (map (λ (x : Entry). label_text x.label) es) ≡ true → Apart earlier es → AreInLine es
proper_from n earlier [] listed order apart = tt
proper_from n earlier (e ∷ es) listed order apart = (
  λ x at same. after_apart e es order x at (sym same),
  λ l prior. let (p, at, of) = prior_of earlier e.prior l prior listed.0.prior in (
    λ same. apart p at e (inl refl) (of ∙ sym same),
    λ x i same. apart p at x (inr i) (of ∙ sym same),
  ),
  proper_from n (earlier ++ e ∷ []) es listed.1 (rest_order e es order)
      (λ p at x i. ⊎_elim (λ (j : In p earlier). apart p j x (inr i))
      (λ (j : In p (e ∷ [])). ⊎_elim (λ (same : p ≡ e). subst (λ (y : Entry). y.label ≢ x.label) (sym same) (after_apart e es order x i)) (λ none. absurd none) j) (in_append p earlier (e ∷ []) at)),
)

pub proper : (v : BackupInfo) → IsBackupInfo v → AreInLine v.backups
proper v rules = proper_from _ [] v.backups rules.backups rules.order (λ p at x i. absurd at)

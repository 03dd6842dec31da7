-- What is condemned is closed: what depends on it is condemned too.
use Rattle.std.proofs.Common.{◌≡◌, ◌≢◌, inl, inr, Bool, true, false, List, [], ◌∷◌, Option, Some, refl, ap, ◌∙◌, sym, subst, ℕ}
use Rattle.std.specs.Prelude.{◌&&◌, ◌||◌, not, filter}
use Rattle.std.specs.Option.{option_map_or}
use Rattle.std.proofs.lemmas.Bool.{or_left, or_right, and_left, and_from}
use Rattle.base_model.specs.declared.labels.Label.{Label}
use Rattle.base_model.specs.Text.{In}
use Rattle.base_model.specs.Values.{Entry}
use Rattle.expire_rules.specs.declared.rules.Rules.{Rules}
use Rattle.expire_rules.specs.Labels.{is_label, has_label, labels_of}
use Rattle.expire_rules.specs.Descent.{AreInLine}
use Rattle.expire_rules.specs.Condemned.{with_dependents, is_condemned, is_condemned_full, diffs_gone}
use Rattle.expire_rules.proofs.LabelTests.{label_refl, label_apart}

-- ---- what depends on labels

-- the set after the first backup
abbrev with_first : (Label → Bool) → Entry → Label → Bool
with_first goes e k = goes k || (is_label e.label k && option_map_or goes e.prior false)

pub grows : (es : List Entry) (goes : Label → Bool) (l : Label) → goes l ≡ true → with_dependents goes es l ≡ true
grows [] goes l h = h
grows (e ∷ es) goes l h = grows es (with_first goes e) l (or_left (goes l) (is_label e.label l && option_map_or goes e.prior false) h)

first_apart : (goes : Label → Bool) (e : Entry) (l : Label) → e.label ≢ l → with_first goes e l ≡ true → goes l ≡ true
first_apart goes e l off h = sym (or_same (goes l) (is_label e.label l && option_map_or goes e.prior false) (and_left (is_label e.label l) (option_map_or goes e.prior false) (label_apart e.label l off))) ∙ h
  where
    or_same : (a b : Bool) → b ≡ false → (a || b) ≡ a
    or_same true b e = refl
    or_same false b e = e

-- a label that isn't listed expires only where it did
pub unlisted : (es : List Entry) (goes : Label → Bool) (l : Label) → ((x : Entry) → In x es → x.label ≢ l) → with_dependents goes es l ≡ true → goes l ≡ true
unlisted [] goes l off h = h
unlisted (e ∷ es) goes l off h = first_apart goes e l (off e (inl refl)) (unlisted es (with_first goes e) l (λ x i. off x (inr i)) h)

pub closed : (es : List Entry) (goes : Label → Bool) → AreInLine es → (e : Entry) → In e es → (l : Label) → e.prior ≡ Some l → with_dependents goes es l ≡ true → with_dependents goes es e.label ≡ true
closed [] goes proper e at l prior h = absurd at
closed (x ∷ xs) goes proper e (inr i) l prior h = closed xs (with_first goes x) proper.2 e i l prior h
closed (x ∷ xs) goes proper e (inl same) l prior h =
    let of_x : x.prior ≡ Some l = ap (λ (y : Entry). y.prior) (sym same) ∙ prior in
    let apart = proper.1 l of_x in
    let went : goes l ≡ true = first_apart goes x l apart.0 (unlisted xs (with_first goes x) l apart.1 h) in
    let by_prior : option_map_or goes x.prior false ≡ true = ap (λ (o : Option Label). option_map_or goes o false) of_x ∙ went in
    let here : with_first goes x x.label ≡ true = or_right (goes x.label) (is_label x.label x.label && option_map_or goes x.prior false) (and_from (is_label x.label x.label) (option_map_or goes x.prior false) (label_refl x.label) by_prior) in
    subst (λ (y : Entry). with_dependents (with_first goes x) xs y.label ≡ true) (sym same) (grows xs (with_first goes x) x.label here)

-- ---- the rules

pub condemned_closed : (rules : Rules) (now : ℕ) (es : List Entry) → AreInLine es → (e : Entry) → In e es → (l : Label) → e.prior ≡ Some l → is_condemned rules now es l ≡ true → is_condemned rules now es e.label ≡ true
condemned_closed rules now es are e at l prior h =
    closed es (λ l. is_condemned_full rules now es l || has_label (labels_of (diffs_gone rules.diff (filter (λ e. not (is_condemned_full rules now es e.label)) es))) l) are e at l prior h

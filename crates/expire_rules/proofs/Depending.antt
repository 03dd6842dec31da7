-- Labels that are added one by one.
use Rattle.std.proofs.Common.{◌≡◌, ℕ, ◌+◌, ◌<◌, ◌≤◌, Bool, true, false, List, [], ◌∷◌, ◌++◌, map, length, drop, get_or, Option, Some, None, refl, ap, ◌∙◌, sym}
use Rattle.std.specs.Prelude.{◌||◌, ◌&&◌}
use Rattle.std.specs.Option.{option_map_or}
use Rattle.base_model.specs.declared.labels.Label.{Label}
use Rattle.base_model.specs.declared.labels.Entry as rust_entry
use Rattle.base_model.specs.Values.{Entry, entry_of}
use Rattle.repo_keys.proofs.Seeking.{opened, ended}
use Rattle.expire_rules.specs.Labels.{is_label, has_label}
use Rattle.expire_rules.specs.Condemned.{with_dependents}

or_assoc : (a b c : Bool) → (a || (b || c)) ≡ ((a || b) || c)
or_assoc true b c = refl
or_assoc false b c = refl

or_none : (a b : Bool) → (a || (b || false)) ≡ (a || (b && true))
or_none true b = refl
or_none false true = refl
or_none false false = refl

no_more : (a b : Bool) → a ≡ (a || (b && false))
no_more true b = refl
no_more false true = refl
no_more false false = refl

has_push : (ls : List Label) (x l : Label) → has_label (ls ++ x ∷ []) l ≡ (has_label ls l || (is_label x l || false))
has_push [] x l = refl
has_push (k ∷ ks) x l = ap (λ (b : Bool). is_label k l || b) (has_push ks x l) ∙ or_assoc (is_label k l) (has_label ks l) (is_label x l || false)

pub pushed : (ls after : List Label) (x : Label) (b : Bool) → b ≡ true → after ≡ ls ++ x ∷ [] → (l : Label) → has_label after l ≡ (has_label ls l || (is_label x l && b))
pushed ls after x b on is l = ap (λ (ks : List Label). has_label ks l) is ∙ has_push ls x l ∙ or_none (has_label ls l) (is_label x l) ∙ ap (λ (c : Bool). has_label ls l || (is_label x l && c)) (sym on)

pub kept_out : (ls : List Label) (x : Label) (b : Bool) → b ≡ false → (l : Label) → has_label ls l ≡ (has_label ls l || (is_label x l && b))
kept_out ls x b off l = no_more (has_label ls l) (is_label x l) ∙ ap (λ (c : Bool). has_label ls l || (is_label x l && c)) (sym off)

-- sets that agree have the same dependents
pub same_dependents : (es : List Entry) (p q : Label → Bool) → ((k : Label) → p k ≡ q k) → (l : Label) → with_dependents p es l ≡ with_dependents q es l
same_dependents [] p q same l = same l
same_dependents (e ∷ es) p q same l = same_dependents es (λ k. p k || (is_label e.label k && option_map_or p e.prior false)) (λ k. q k || (is_label e.label k && option_map_or q e.prior false))
    (λ k. ap (λ (b : Bool). b || (is_label e.label k && option_map_or p e.prior false)) (same k) ∙ ap (λ (b : Bool). q k || (is_label e.label k && b)) (prior e.prior)) l
  where
    prior : (o : Option Label) → option_map_or p o false ≡ option_map_or q o false
    prior None = refl
    prior (Some m) = same m

-- the labels so far, with what depends on them after that
abbrev pub IsOnTheWay : List Label → List Label → List rust_entry.Entry → ℕ → Type 0
IsOnTheWay known labels es i = (l : Label) → with_dependents (has_label labels) (map entry_of (drop i es)) l ≡ with_dependents (has_label known) (map entry_of es) l

pub on_the_way : (known labels after : List Label) (es : List rust_entry.Entry) (i : ℕ) (e : rust_entry.Entry) → i < length es → e ≡ get_or es i e → IsOnTheWay known labels es i
    → ((l : Label) → has_label after l ≡ (has_label labels l || (is_label e.label l && option_map_or (has_label labels) e.prior false))) → IsOnTheWay known after es (i + 1)
on_the_way known labels after es i e low is so_far more l =
    same_dependents (map entry_of (drop (i + 1) es)) (has_label after) (λ k. has_label labels k || (is_label e.label k && option_map_or (has_label labels) e.prior false)) more l
    ∙ ap (λ (xs : List rust_entry.Entry). with_dependents (has_label labels) (map entry_of xs) l) (sym (opened (λ (x : rust_entry.Entry). x) es i e low is)) ∙ so_far l

pub at_the_end : (known labels : List Label) (es : List rust_entry.Entry) (i : ℕ) → length es ≤ i → IsOnTheWay known labels es i → (l : Label) → has_label labels l ≡ with_dependents (has_label known) (map entry_of es) l
at_the_end known labels es i end so_far l = ap (λ (xs : List rust_entry.Entry). with_dependents (has_label labels) (map entry_of xs) l) (sym (ended (λ (x : rust_entry.Entry). x) es i end)) ∙ so_far l

-- What a look-up by a text finds, against a test of the keys.
use Rattle.std.proofs.Common.{◌≡◌, ℕ, Bool, true, false, cond, ◌&&◌, ◌||◌, List, [], ◌∷◌, Option, Some, None, IsSome, String, string_bytes, bytes_eq, refl, sym, ◌∙◌, ap, subst}
use Rattle.std.specs.List.{list_any, list_all}
use Rattle.std.specs.declared.alloc.Global.{Global}
use Rattle.std.specs.Map.{lookup}
use Rattle.std.specs.BTreeMap.{is_at}
use Rattle.std.proofs.lemmas.Slice.Eq.{bytes_eq-Decides}
use Rattle.std.proofs.lemmas.Map.Text.{is_eq-slice_cmp, text_cmp}

abbrev Entry : Type 0 → Type 0
Entry X = String Global × X

no_some : (X : Type 0) → IsSome {T = X} None → ⊥
no_some X h = cc

module _ {X : Type 0} where
  abbrev find : List ℕ → List (Entry X) → Option X
  find q = lookup (is_at (text_cmp {Y = Global} q))

  -- the first entry of a list, or one of the others
  first_of : (q : List ℕ) (e : Entry X) (es : List (Entry X)) (b : Bool) → bytes_eq q (string_bytes e.0) ≡ b → find q (e ∷ es) ≡ cond b (Some e.1) (find q es)
  first_of q e es b is = ap (λ t. cond t (Some e.1) (find q es)) (is_eq-slice_cmp q (string_bytes e.0) ∙ is)

  pub found_any : (es : List (Entry X)) (q : List ℕ) → list_any (λ e. bytes_eq q (string_bytes e.0)) es ≡ true → IsSome (find q es)
  found_any [] q any = cc
  found_any (e ∷ es) q any = at (bytes_eq q (string_bytes e.0)) refl (found_any es q)
    where
      at : (b : Bool) → bytes_eq q (string_bytes e.0) ≡ b → (list_any (λ e. bytes_eq q (string_bytes e.0)) es ≡ true → IsSome (find q es)) → IsSome (find q (e ∷ es))
      at true is later = subst IsSome (sym (first_of q e es true is)) refl
      at false is later = subst IsSome (sym (first_of q e es false is)) (later (sym (ap (λ b. b || list_any (λ e. bytes_eq q (string_bytes e.0)) es) is) ∙ any))

  module _ (passes : List ℕ → Bool) where
    -- where all keys pass, one that is found does
    pub all_found : (es : List (Entry X)) (q : List ℕ) → list_all (λ e. passes (string_bytes e.0)) es ≡ true → IsSome (find q es) → passes q ≡ true
    all_found [] q all some = absurd (no_some X some)
    all_found (e ∷ es) q all some = at (bytes_eq q (string_bytes e.0)) refl (passes (string_bytes e.0)) refl (all_found es q)
      where
        at : (b : Bool) → bytes_eq q (string_bytes e.0) ≡ b → (c : Bool) → passes (string_bytes e.0) ≡ c → (list_all (λ e. passes (string_bytes e.0)) es ≡ true → IsSome (find q es) → passes q ≡ true) → passes q ≡ true
        at true is true pass later = ap passes ((bytes_eq-Decides q (string_bytes e.0)).0 is) ∙ pass
        at false is true pass later = later (sym (ap (λ c. c && list_all (λ e. passes (string_bytes e.0)) es) pass) ∙ all) (subst IsSome (first_of q e es false is) some)
        at b is false pass later = let none : false ≡ true = sym (ap (λ c. c && list_all (λ e. passes (string_bytes e.0)) es) pass) ∙ all in cc

    -- where no key passes, none that passes is found
    pub none_found : (es : List (Entry X)) (q : List ℕ) → list_any (λ e. passes (string_bytes e.0)) es ≡ false → passes q ≡ true → find q es ≡ None
    none_found [] q none pass = refl
    none_found (e ∷ es) q none pass = at (bytes_eq q (string_bytes e.0)) refl (passes (string_bytes e.0)) refl (none_found es q)
      where
        at : (b : Bool) → bytes_eq q (string_bytes e.0) ≡ b → (c : Bool) → passes (string_bytes e.0) ≡ c → (list_any (λ e. passes (string_bytes e.0)) es ≡ false → passes q ≡ true → find q es ≡ None) → find q (e ∷ es) ≡ None
        at b is true here later = let some : true ≡ false = sym (ap (λ c. c || list_any (λ e. passes (string_bytes e.0)) es) here) ∙ none in cc
        at true is false here later = let same : passes q ≡ passes (string_bytes e.0) = ap passes ((bytes_eq-Decides q (string_bytes e.0)).0 is) in cc
        at false is false here later = first_of q e es false is ∙ later (sym (ap (λ c. c || list_any (λ e. passes (string_bytes e.0)) es) here) ∙ none) pass

    none_later : (b : Bool) (x : X) (o : Option X) → cond b (Some x) o ≡ None → o ≡ None
    none_later true x o is = cc
    none_later false x o is = is

    -- where none that passes is found, no key passes
    pub none_pass : (es : List (Entry X)) → ((q : List ℕ) → passes q ≡ true → find q es ≡ None) → list_any (λ e. passes (string_bytes e.0)) es ≡ false
    none_pass [] none = refl
    none_pass (e ∷ es) none = at (passes (string_bytes e.0)) refl (none_pass es (λ q pass. none_later (is_at (text_cmp q) e.0) e.1 (find q es) (none q pass)))
      where
        at : (c : Bool) → passes (string_bytes e.0) ≡ c → list_any (λ e. passes (string_bytes e.0)) es ≡ false → list_any (λ e. passes (string_bytes e.0)) (e ∷ es) ≡ false
        at true here later =
            let found = first_of (string_bytes e.0) e es true ((bytes_eq-Decides (string_bytes e.0) (string_bytes e.0)).1 refl) in
            let missing = none (string_bytes e.0) here in
            cc (found, missing)
        at false here later = ap (λ c. c || list_any (λ e. passes (string_bytes e.0)) es) here ∙ later

-- What a listing of an ordered map has: the names that pass a test, in byte order, with what is shown of their values.
use Rattle.std.proofs.Common.{◌≡◌, ◌⊎◌, inl, inr, ⊎_elim, ℕ, Bool, true, false, cond, ◌&&◌, List, [], ◌∷◌, Option, Some, map, String, string_bytes, bytes_eq, refl, sym, ◌∙◌, ap, subst}
use Rattle.std.specs.Prelude.{Contains, All, filter}
use Rattle.std.specs.List.{AllByRecursion}
use Rattle.std.specs.List.Sorted.{IsStrictlySortedBy}
use Rattle.std.specs.declared.alloc.Global.{Global}
use Rattle.std.specs.declared.cmp.Ordering.TheVariants.{Less}
use Rattle.std.specs.Ordering.{nat_cmp, match_ordering}
use Rattle.std.specs.Cmp.Lexicographic.{slice_cmp}
use Rattle.std.specs.String.{string_cmp, string_cmp_total}
use Rattle.std.specs.Map.{keys_of, lookup}
use Rattle.std.specs.BTreeMap.{BTreeMap, get_by_text, IsOrdered, is_at, get}
use Rattle.std.proofs.lemmas.Slice.Eq.{bytes_eq-Decides}
use Rattle.std.proofs.lemmas.Map.Text.{is_eq-slice_cmp, text_cmp}
use Rattle.std.proofs.lemmas.Map.Views.{All-found}
use Rattle.std.proofs.lemmas.List.Elements.{All-contains, All-map, All-filter, filter_passes, Contains-append_right, Contains-push, Contains-append_left}
use Rattle.base_devices.specs.Order.{is_before, are_after, are_in_order}

two : (b : Bool) → (b ≡ true) ⊎ (b ≡ false)
two true = inl refl
two false = inr refl

module _ {X Y : Type 0} (passes : List ℕ → Bool) (show : X → Y) where
  abbrev Entry : Type 0
  Entry = String Global × X

  abbrev pub passing : List Entry → List Entry
  passing = filter (λ e. passes (string_bytes e.0))

  abbrev shown : Entry → List ℕ × Y
  shown e = (string_bytes e.0, show e.1)

  abbrev pub listed : List Entry → List (List ℕ × Y)
  listed es = map shown (passing es)

  -- their names
  abbrev names : List Entry → List (List ℕ)
  names es = map (λ (x : List ℕ × Y). x.0) (map shown es)

  after_step : (b : Bool) (last : List ℕ) (e : Entry) (l : List Entry) → is_before last (string_bytes e.0) ≡ true → are_after (string_bytes e.0) (names l) ≡ true → are_after last (names l) ≡ true
      → are_after last (names (cond b (e ∷ l) l)) ≡ true
  after_step true last e l before after others = ap (λ b. b && are_after (string_bytes e.0) (names l)) before ∙ after
  after_step false last e l before after others = others

  after_all : (last : List ℕ) (es : List Entry) → AllByRecursion (λ k. slice_cmp nat_cmp last (string_bytes k) ≡ Less) (keys_of es) → IsStrictlySortedBy string_cmp (keys_of es)
      → are_after last (names (passing es)) ≡ true
  unfolding IsStrictlySortedBy
  after_all last [] above sorted = refl
  after_all last (e ∷ es) above sorted = after_step (passes (string_bytes e.0)) last e (passing es)
      (ap (λ o. match_ordering o true false false) above.0)
      (after_all (string_bytes e.0) es sorted.0 sorted.1)
      (after_all last es above.1 sorted.1)

  in_order_step : (b : Bool) (e : Entry) (l : List Entry) → are_after (string_bytes e.0) (names l) ≡ true → are_in_order (names l) ≡ true → are_in_order (names (cond b (e ∷ l) l)) ≡ true
  in_order_step true e l after others = after
  in_order_step false e l after others = others

  pub listed_in_order : (es : List Entry) → IsStrictlySortedBy string_cmp (keys_of es) → are_in_order (names (passing es)) ≡ true
  unfolding IsStrictlySortedBy
  listed_in_order [] sorted = refl
  listed_in_order (e ∷ es) sorted = in_order_step (passes (string_bytes e.0)) e (passing es) (after_all (string_bytes e.0) es sorted.0 sorted.1) (listed_in_order es sorted.1)

  contains_step : (b : Bool) (e : Entry) (l : List Entry) (q : List ℕ) (v : X) → Contains (map shown l) (q, show v) → Contains (map shown (cond b (e ∷ l) l)) (q, show v)
  contains_step true e l q v h = Contains-append_right (shown e ∷ []) (map shown l) (q, show v) h
  contains_step false e l q v h = h

  contains_here : (b : Bool) (e : Entry) (l : List Entry) (q : List ℕ) (v : X) → b ≡ true → string_bytes e.0 ≡ q → e.1 ≡ v → Contains (map shown (cond b (e ∷ l) l)) (q, show v)
  contains_here true e l q v pass name value = subst (λ (x : List ℕ × Y). Contains (shown e ∷ map shown l) x) (ap (λ (n : List ℕ). (n, show e.1)) name ∙ ap (λ (w : X). (q, show w)) value) (Contains-append_left (shown e ∷ []) (map shown l) (shown e) (Contains-push [] (shown e)))
  contains_here false e l q v pass name value = cc

  -- where a name that passes is found, it is listed
  pub listed_found : (es : List Entry) (q : List ℕ) (v : X) → passes q ≡ true → lookup (is_at (text_cmp q)) es ≡ Some v → Contains (listed es) (q, show v)
  listed_found [] q v pass found = cc
  listed_found (e ∷ es) q v pass found = ⊎_elim here (further (listed_found es q v pass)) (two (bytes_eq q (string_bytes e.0)))
    where
      here : bytes_eq q (string_bytes e.0) ≡ true → Contains (listed (e ∷ es)) (q, show v)
      here same =
          let name : q ≡ string_bytes e.0 = (bytes_eq-Decides q (string_bytes e.0)).0 same in
          let first : ◌≡◌ {A = Option X} (Some e.1) (Some v) = sym (ap (λ b. cond b (Some e.1) (lookup (is_at (text_cmp q)) es)) (is_eq-slice_cmp q (string_bytes e.0) ∙ same)) ∙ found in
          contains_here (passes (string_bytes e.0)) e (passing es) q v (ap passes (sym name) ∙ pass) (sym name) (cc first)

      further : (lookup (is_at (text_cmp q)) es ≡ Some v → Contains (listed es) (q, show v)) → bytes_eq q (string_bytes e.0) ≡ false → Contains (listed (e ∷ es)) (q, show v)
      further later apart =
          let rest : lookup (is_at (text_cmp q)) es ≡ Some v = sym (ap (λ b. cond b (Some e.1) (lookup (is_at (text_cmp q)) es)) (is_eq-slice_cmp q (string_bytes e.0) ∙ apart)) ∙ found in
          contains_step (passes (string_bytes e.0)) e (passing es) q v (later rest)

  -- what is shown at a name
  abbrev pub ShowsAt : BTreeMap (String Global) X → List ℕ × Y → Type 0
  ShowsAt m x = (v : X) × (get_by_text m x.0 ≡ Some v) × (passes x.0 ≡ true) × (x.1 ≡ show v)

  -- what is listed is in the map
  pub listed_each : (m : BTreeMap (String Global) X) → IsOrdered string_cmp m → (x : List ℕ × Y) → Contains (listed m.entries) x → ShowsAt m x
  listed_each m ordered x has = All-contains (ShowsAt m) (listed m.entries) x (All-map (ShowsAt m) shown (passing m.entries) all) has
    where
      all : All (λ e. ShowsAt m (shown e)) (passing m.entries)
      all k d within = (_, All-filter (λ (e : Entry). passes (string_bytes e.0)) (λ e. get string_cmp m e.0 ≡ Some e.1) m.entries (All-found string_cmp_total m ordered) k d within, filter_passes (λ (e : Entry). passes (string_bytes e.0)) m.entries k d within, refl)

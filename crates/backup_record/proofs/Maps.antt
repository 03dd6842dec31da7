-- The map of a list of files in the order of their paths.
use Rattle.std.proofs.Common.{◌≡◌, ⊎_elim, Bool, true, false, List, [], ◌∷◌, map, Some, refl, sym, ◌∙◌, ap, subst}
use Rattle.std.specs.Prelude.{◌&&◌, cond, T}
use Rattle.std.specs.FinMap.{find, is_sorted, get, keys, from_sorted, entries-from_sorted, get-from_sorted}
use Rattle.std.specs.declared.cmp.Ordering.{Ordering}
use Rattle.std.specs.declared.cmp.Ordering.TheVariants.{Less, Equal, Greater}
use Rattle.std.specs.Ordering.{is_eq, is_lt, ordering_reverse}
use Rattle.std.specs.Cmp.{tied_itself}
use Rattle.std.specs.Cmp.Lexicographic.{nat_list_cmp_total}
use Rattle.std.specs.FinMap.Entries.{below_all}
use Rattle.base_model.specs.Text.{Text, Map, In, text_cmp}

pub both : (a b : Bool) → (a && b) ≡ true → (a ≡ true) × (b ≡ true)
both true b is = (refl, is)
both false b is = absurd (let e : ◌≡◌ {A = Bool} false true = is in cc)

less_is : (r : Ordering) → is_lt r ≡ true → r ≡ Less
less_is Less e = refl
less_is Equal e = absurd (let x : ◌≡◌ {A = Bool} false true = e in cc)
less_is Greater e = absurd (let x : ◌≡◌ {A = Bool} false true = e in cc)

module _ {X : Type 0} where
  below_in : (k q : Text) (x : X) (es : List (Text × X)) → below_all text_cmp k es ≡ true → In (q, x) es → text_cmp k q ≡ Less
  below_in k q x [] h at = absurd at
  below_in k q x (e ∷ es) h at =
      let b = both (is_lt (text_cmp k e.0)) (below_all text_cmp k es) h in
      ⊎_elim (λ (same : (q, x) ≡ e). subst (λ (d : Text × X). text_cmp k d.0 ≡ Less) (sym same) (less_is (text_cmp k e.0) b.0)) (λ (r : In (q, x) es). below_in k q x es b.1 r) at

  find_in : (es : List (Text × X)) (q : Text) (x : X) → is_sorted text_cmp es ≡ true → In (q, x) es → find text_cmp q es ≡ Some x
  find_in [] q x h at = absurd at
  find_in (e ∷ es) q x h at =
      let b = both (below_all text_cmp e.0 es) (is_sorted text_cmp es) h in
      ⊎_elim
      (λ (same : (q, x) ≡ e). subst (λ (d : Text × X). find text_cmp q (d ∷ es) ≡ Some x) same (ap (λ (r : Ordering). cond (is_eq r) (Some x) (find text_cmp q es)) (tied_itself nat_list_cmp_total q)))
      (λ (r : In (q, x) es).
      let less = below_in e.0 q x es b.0 r in
      let more : text_cmp q e.0 ≡ Greater = nat_list_cmp_total.antisymm q e.0 ∙ ap ordering_reverse less in
      ap (λ (r : Ordering). cond (is_eq r) (Some e.1) (find text_cmp q es)) more ∙ find_in es q x b.1 r)
      at

  pub map_of : List (Text × X) → Map X
  map_of es = from_sorted {R = text_cmp} es

  pub keys_of : (es : List (Text × X)) → is_sorted text_cmp es ≡ true → keys (map_of es) ≡ map (λ (e : Text × X). e.0) es
  unfolding map_of
  keys_of es h = ap (map (λ (e : Text × X). e.0)) (entries-from_sorted text_cmp es (subst T (sym h) tt))

  pub get_of : (es : List (Text × X)) (q : Text) (x : X) → is_sorted text_cmp es ≡ true → In (q, x) es → get (map_of es) q ≡ Some x
  unfolding map_of
  get_of es q x h at = get-from_sorted text_cmp es q (subst T (sym h) tt) ∙ find_in es q x h at

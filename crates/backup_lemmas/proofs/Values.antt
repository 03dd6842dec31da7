-- A value of the map of a sorted list is one of the list.
use Rattle.std.proofs.Common.{◌≡◌, inl, inr, true, List, [], ◌∷◌, map, Option, Some, None, refl, sym, ◌∙◌, ap, subst}
use Rattle.std.specs.Prelude.{cond}
use Rattle.std.specs.declared.cmp.Ordering.{Ordering}
use Rattle.std.specs.declared.cmp.Ordering.TheVariants.{Less, Equal, Greater}
use Rattle.std.specs.Ordering.{is_eq}
use Rattle.std.specs.FinMap.{find, is_sorted, get, entries, get-entries, nat_cmp-IsAntisymmetric, slice_cmp-IsAntisymmetric}
use Rattle.base_model.specs.Text.{Text, In, text_cmp}
use Rattle.backup_record.proofs.Made.{of_map}
use Rattle.backup_record.proofs.Maps.{map_of, keys_of, get_of}

module _ {X : Type 0} where
  key_in : (es : List (Text × X)) (q : Text) (x : X) → find text_cmp q es ≡ Some x → In q (map (λ (d : Text × X). d.0) es)
  key_in [] q x is = absurd (let e : ◌≡◌ {A = Option X} None (Some x) = is in cc)
  key_in (e ∷ es) q x is = by (key_in es q x) (text_cmp q e.0) refl is
    where
      by : (find text_cmp q es ≡ Some x → In q (map (λ (d : Text × X). d.0) es)) → (r : Ordering) → text_cmp q e.0 ≡ r → cond (is_eq r) (Some e.1) (find text_cmp q es) ≡ Some x → In q (map (λ (d : Text × X). d.0) (e ∷ es))
      by rest Less eq h = inr (rest h)
      by rest Equal eq h = inl (slice_cmp-IsAntisymmetric nat_cmp-IsAntisymmetric q e.0 eq)
      by rest Greater eq h = inr (rest h)

  pub value_in : (es : List (Text × X)) (q : Text) (x : X) → is_sorted text_cmp es ≡ true → get (map_of es) q ≡ Some x → In (let z : Text × X = (q, x) in z) es
  value_in es q x sorted is =
      let at = subst (λ (ks : List Text). In q ks) (keys_of es sorted) (key_in (entries (map_of es)) q x (sym (get-entries (map_of es) q) ∙ is)) in
      let e = of_map (λ (d : Text × X). d.0) q es at in
      let here : get (map_of es) e.0.0 ≡ Some e.0.1 = get_of es e.0.0 e.0.1 sorted e.1 in
      let same : x ≡ e.0.1 = (let k : ◌≡◌ {A = Option X} (Some x) (Some e.0.1) = sym is ∙ ap (λ (k : Text). get (map_of es) k) e.2 ∙ here in cc) in
      subst (λ (d : Text × X). In d es) (ap (λ (k : Text). (let z : Text × X = (k, e.0.1) in z)) (sym e.2) ∙ ap (λ (v : X). (let z : Text × X = (q, v) in z)) (sym same)) e.1

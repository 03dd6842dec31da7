-- A key is searched for in the half that may have it.
use Rattle.std.proofs.Common.{◌≡◌, ◌≢◌, ⊎_elim, inl, ℕ, ◌+◌, ◌<◌, true, false, List, [], ◌∷◌, ◌++◌, map, take, drop, length, get_or, refl, sym, ap, ◌∙◌, subst, take-append-drop}
use Rattle.std.proofs.lemmas.Cmp.{nat_list_cmp_total}
use Rattle.std.proofs.lemmas.List.{map-append}
use Rattle.serde_json.specs.Data.{Data}
use Rattle.base_devices.specs.Order.{is_before}
use Rattle.base_model.specs.Text.{Text, In}
use Rattle.base_model.specs.Fields.{Field}
use Rattle.repo_ini.proofs.Orders.{less_from, not_itself}
use Rattle.repo_keys.specs.Agree.{IsOrdered}
use Rattle.repo_keys.proofs.ByKey.{other_first}
use Rattle.repo_keys.proofs.Seeking.{opened}
use Rattle.repo_keys.proofs.Walked.{in_back, in_parts, prefix_first, following, head_not}

abbrev name : Field → Text
name k = k.0

module _ {X : Type 0} (f : X → Field) (xs : List X) (order : IsOrdered (map f xs)) (m : ℕ) (x : X) (less : m < length xs) (is : x ≡ get_or xs m x) (key : Text) where
  abbrev prefix : List Field
  prefix = map f (take m xs)

  abbrev more : List Field
  more = map f (drop (m + 1) xs)

  split : map f xs ≡ prefix ++ f x ∷ more
  split = ap (map f) (sym (take-append-drop m xs)) ∙ map-append f (take m xs) (drop m xs) ∙ ap (λ (l : List X). prefix ++ map f l) (opened f xs m x less is)

  parts_ordered : IsOrdered (prefix ++ f x ∷ more)
  parts_ordered = subst IsOrdered split order

  -- a key before this one isn't after it
  pub not_above : is_before key (f x).0 ≡ true → (d : Data) → In (key, d) (map f (drop m xs)) → ⊥
  not_above b d i =
      let (last, own) = following [] prefix (f x ∷ more) parts_ordered in
      head_not last (f x) more own (key, d) (subst (λ (l : List X). In (key, d) (map f l)) (opened f xs m x less is) i) (less_from key (f x).0 b)

  -- a key after this one is after it
  pub above : (f x).0 ≢ key → is_before key (f x).0 ≡ false → (d : Data) → In (key, d) (map f xs) → In (key, d) more
  above apart b d i =
      let after = less_from (f x).0 key (other_first key (f x).0 (λ e. apart (sym e)) b) in
      ⊎_elim
      (λ (j : In (key, d) prefix). absurd (not_itself key key (nat_list_cmp_total.trans key (f x).0 key (prefix_first [] prefix (f x ∷ more) (key, d) (f x) parts_ordered j (inl refl)) after) refl))
      (λ (j : In (key, d) (f x ∷ more)). ⊎_elim (λ (e : (let g : Field = (key, d) in g) ≡ f x). absurd (apart (sym (ap name e)))) (λ (k : In (key, d) more). k) j)
      (in_parts prefix (f x ∷ more) (key, d) (subst (λ (ks : List Field). In (key, d) ks) split i))

  -- the key itself
  pub here : (f x).0 ≡ key → (d : Data) × In (key, d) (map f xs)
  here same = ((f x).1, subst (λ (n : Text). In (n, (f x).1) (map f xs)) same (subst (λ (ks : List Field). In (f x) ks) (sym split) (in_back prefix (f x ∷ more) (f x) (inl refl))))

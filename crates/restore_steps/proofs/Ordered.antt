-- What is in byte order of its names.
use Rattle.std.proofs.Common.{ℕ, zero, suc, ◌≡◌, ◌≢◌, ◌⊎◌, inl, inr, ⊎_elim, true, refl, sym, ap, ◌∙◌, subst, arith, List, [], ◌∷◌, ◌++◌, length, map, Ordering, Less, Equal, nat_cmp}
use Rattle.std.specs.Ordering.{ordering_then}
use Rattle.std.specs.Cmp.Lexicographic.{slice_cmp}
use Rattle.std.proofs.lemmas.Bool.{and_parts}
use Rattle.std.proofs.lemmas.Cmp.{nat_list_cmp_total, nat_cmp_total, tied_itself}
use Rattle.base_devices.specs.Order.{is_before, are_after, are_in_order}
use Rattle.base_model.specs.Text.{Text, In, ◌⫽◌}
use Rattle.repo_ini.proofs.Orders.{not_itself}
use Rattle.backup_plan.proofs.Searched.{later}

-- a folder comes before what lies in it
pub folder_first : (prefix rest : Text) → slice_cmp nat_cmp prefix (prefix ⫽ rest) ≡ Less
folder_first [] rest = refl
folder_first (c ∷ cs) rest = ap (λ (o : Ordering). ordering_then o (slice_cmp nat_cmp cs (cs ⫽ rest))) (tied_itself nat_cmp_total c) ∙ folder_first cs rest

never_both : (a b : Text) → slice_cmp nat_cmp a b ≡ Less → slice_cmp nat_cmp b a ≡ Less → ⊥
never_both a b h k = not_itself a a (nat_list_cmp_total.trans a b a h k) refl

module _ {X : Type 0} (name : X → Text) where
  pub tail_order : (x : X) (xs : List X) → are_in_order (map name (x ∷ xs)) ≡ true → are_in_order (map name xs) ≡ true
  tail_order x [] order = refl
  tail_order x (y ∷ ys) order = (and_parts (is_before (name x) (name y)) (are_after (name y) (map name ys)) order).1

  -- each name is there once
  pub one_name : (xs : List X) (x y : X) → are_in_order (map name xs) ≡ true → In x xs → In y xs → name x ≡ name y → x ≡ y
  one_name [] x y order i j same = absurd i
  one_name (z ∷ zs) x y order (inl e) (inl f) same = e ∙ sym f
  one_name (z ∷ zs) x y order (inl e) (inr j) same = absurd (not_itself (name z) (name y) (later name (name z) zs y order j) (ap name (sym e) ∙ same))
  one_name (z ∷ zs) x y order (inr i) (inl f) same = absurd (not_itself (name z) (name x) (later name (name z) zs x order i) (ap name (sym f) ∙ sym same))
  one_name (z ∷ zs) x y order (inr i) (inr j) same = one_name zs x y (tail_order z zs order) i j same

  -- what comes after an element comes after it
  pub represents_after : (prefix back : List X) (x y : X) → are_in_order (map name (prefix ++ x ∷ back)) ≡ true → In y (prefix ++ x ∷ back) → slice_cmp nat_cmp (name x) (name y) ≡ Less → In y back
  represents_after [] back x y order (inl e) less = absurd (not_itself (name x) (name y) less (ap name (sym e)))
  represents_after [] back x y order (inr i) less = i
  represents_after (z ∷ prefix) back x y order (inl e) less =
      absurd (never_both (name x) (name y) less (subst (λ (w : X). slice_cmp nat_cmp (name w) (name x) ≡ Less) (sym e) (later name (name z) (prefix ++ x ∷ back) x order (middle prefix))))
    where
      middle : (ws : List X) → In x (ws ++ x ∷ back)
      middle [] = inl refl
      middle (w ∷ ws) = inr (middle ws)
  represents_after (z ∷ prefix) back x y order (inr i) less = represents_after prefix back x y (tail_order z (prefix ++ x ∷ back) order) i less

  -- what comes before an element comes before it
  pub represents_before : (prefix back : List X) (x y : X) → are_in_order (map name (prefix ++ x ∷ back)) ≡ true → In y (prefix ++ x ∷ back) → slice_cmp nat_cmp (name y) (name x) ≡ Less → In y prefix
  represents_before [] back x y order (inl e) less = absurd (not_itself (name y) (name x) less (ap name e))
  represents_before [] back x y order (inr i) less = absurd (never_both (name y) (name x) less (later name (name x) back y order i))
  represents_before (z ∷ prefix) back x y order (inl e) less = inl e
  represents_before (z ∷ prefix) back x y order (inr i) less = inr (represents_before prefix back x y (tail_order z (prefix ++ x ∷ back) order) i less)

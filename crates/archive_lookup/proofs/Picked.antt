-- What a loop picks of a list.
use Rattle.std.proofs.Common.{◌≡◌, ◌⊎◌, ⊎_elim, inl, inr, ℕ, ◌+◌, ◌<◌, true, false, List, [], ◌∷◌, ◌++◌, length, take, map, get_or, refl, ap, ◌∙◌, sym, subst}
use Rattle.std.specs.Prelude.{Bool, ◌&&◌}
use Rattle.std.proofs.lemmas.Bool.{and_parts}
use Rattle.std.proofs.lemmas.List.{take_more}
use Rattle.base_devices.specs.Order.{is_before, are_after, are_in_order}
use Rattle.base_model.specs.Text.{Text, In}
use Rattle.archive_lookup.specs.Listing.{Picks}
use Rattle.archive_lookup.proofs.Orders.{before_on}

and_both : (p q : Bool) → p ≡ true → q ≡ true → (p && q) ≡ true
and_both true q on e = e
and_both false q on e = cc on

module _ {X Y : Type 0} (Shows : X → Y → Type 0) (Passes : X → Type 0) where
  pass_more : (xs : List X) (ys : List Y) (x : X) → Picks Shows Passes xs ys → Passes x → Picks Shows Passes (xs ++ x ∷ []) ys
  pass_more [] [] x p h = (h, tt)
  pass_more [] (y ∷ ys) x p h = absurd p
  pass_more (z ∷ xs) [] x p h = (p.0, pass_more xs [] x p.1 h)
  pass_more (z ∷ xs) (y ∷ ys) x (inl p) h = inl (p.0, pass_more xs ys x p.1 h)
  pass_more (z ∷ xs) (y ∷ ys) x (inr p) h = inr (p.0, pass_more xs (y ∷ ys) x p.1 h)

  tell_more : (xs : List X) (ys : List Y) (x : X) (y : Y) → Picks Shows Passes xs ys → Shows x y → Picks Shows Passes (xs ++ x ∷ []) (ys ++ y ∷ [])
  tell_more [] [] x y p h = inl (h, tt)
  tell_more [] (z ∷ ys) x y p h = absurd p
  tell_more (z ∷ xs) [] x y p h = inr (p.0, tell_more xs [] x y p.1 h)
  tell_more (z ∷ xs) (w ∷ ys) x y (inl p) h = inl (p.0, tell_more xs ys x y p.1 h)
  tell_more (z ∷ xs) (w ∷ ys) x y (inr p) h = inr (p.0, tell_more xs (w ∷ ys) x y p.1 h)

  -- the loop's step
  pub step_pass : (all : List X) (i : ℕ) (x : X) (before after : List Y) → i < length all → x ≡ get_or all i x → Picks Shows Passes (take i all) before → Passes x → after ≡ before → Picks Shows Passes (take (i + 1) all) after
  step_pass all i x before after lt is kept h same =
      subst (λ (l : List X). Picks Shows Passes l after) (ap (λ (z : X). take i all ++ z ∷ []) is ∙ sym (take_more all i x lt))
      (subst (λ (l : List Y). Picks Shows Passes (take i all ++ x ∷ []) l) (sym same) (pass_more (take i all) before x kept h))

  pub step_tell : (all : List X) (i : ℕ) (x : X) (before after : List Y) (y : Y) → i < length all → x ≡ get_or all i x → Picks Shows Passes (take i all) before → Shows x y → after ≡ before ++ y ∷ [] → Picks Shows Passes (take (i + 1) all) after
  step_tell all i x before after y lt is kept h grown =
      subst (λ (l : List X). Picks Shows Passes l after) (ap (λ (z : X). take i all ++ z ∷ []) is ∙ sym (take_more all i x lt))
      (subst (λ (l : List Y). Picks Shows Passes (take i all ++ x ∷ []) l) (sym grown) (tell_more (take i all) before x y kept h))

  -- what is picked was there
  pub picked : (xs : List X) (ys : List Y) → Picks Shows Passes xs ys → (y : Y) → In y ys → (x : X) × In x xs × Shows x y
  picked [] [] p y at = absurd at
  picked [] (z ∷ ys) p y at = absurd p
  picked (x ∷ xs) [] p y at = absurd at
  picked (x ∷ xs) (z ∷ ys) (inl p) y at = ⊎_elim (λ (e : y ≡ z). (x, inl refl, subst (λ (k : Y). Shows x k) (sym e) p.0)) (λ h. let c = picked xs ys p.1 y h in (c.0, inr c.1, c.2)) at
  picked (x ∷ xs) (z ∷ ys) (inr p) y at = let c = picked xs (z ∷ ys) p.1 y at in (c.0, inr c.1, c.2)

  -- what was there passes or is picked
  pub met : (xs : List X) (ys : List Y) → Picks Shows Passes xs ys → (x : X) → In x xs → Passes x ⊎ ((y : Y) × In y ys × Shows x y)
  met [] ys p x at = absurd at
  met (z ∷ xs) [] p x at = ⊎_elim (λ (e : x ≡ z). inl (subst (λ (k : X). Passes k) (sym e) p.0)) (λ h. met xs [] p.1 x h) at
  met (z ∷ xs) (w ∷ ys) (inl p) x at = ⊎_elim (λ (e : x ≡ z). inr (w, inl refl, subst (λ (k : X). Shows k w) (sym e) p.0))
      (λ h. ⊎_elim (λ k. inl k) (λ (c : (y : Y) × In y ys × Shows x y). inr (c.0, inr c.1, c.2)) (met xs ys p.1 x h)) at
  met (z ∷ xs) (w ∷ ys) (inr p) x at = ⊎_elim (λ (e : x ≡ z). inl (subst (λ (k : X). Passes k) (sym e) p.0)) (λ h. met xs (w ∷ ys) p.1 x h) at

  -- ---- their names

  module _ (from : X → Text) (to : Y → Text) (named : (x : X) (y : Y) → Shows x y → to y ≡ from x) where
    sooner : (first next : Text) (names : List Text) → is_before first next ≡ true → are_after next names ≡ true → are_after first names ≡ true
    sooner first next [] before after = refl
    sooner first next (n ∷ names) before after = let parts = and_parts (is_before next n) (are_after n names) after in and_both (is_before first n) (are_after n names) (before_on first next n before parts.0) parts.1

    pub picked_after : (last : Text) (xs : List X) (ys : List Y) → Picks Shows Passes xs ys → are_after last (map from xs) ≡ true → are_after last (map to ys) ≡ true
    picked_after last [] [] p order = refl
    picked_after last [] (y ∷ ys) p order = absurd p
    picked_after last (x ∷ xs) [] p order = refl
    picked_after last (x ∷ xs) (y ∷ ys) (inl p) order =
        let parts = and_parts (is_before last (from x)) (are_after (from x) (map from xs)) order in
        let rest = picked_after (from x) xs ys p.1 parts.1 in
        and_both (is_before last (to y)) (are_after (to y) (map to ys)) (subst (λ (n : Text). is_before last n ≡ true) (sym (named x y p.0)) parts.0) (subst (λ (n : Text). are_after n (map to ys) ≡ true) (sym (named x y p.0)) rest)
    picked_after last (x ∷ xs) (y ∷ ys) (inr p) order =
        let parts = and_parts (is_before last (from x)) (are_after (from x) (map from xs)) order in
        sooner last (from x) (map to (y ∷ ys)) parts.0 (picked_after (from x) xs (y ∷ ys) p.1 parts.1)

    pub picked_order : (xs : List X) (ys : List Y) → Picks Shows Passes xs ys → are_in_order (map from xs) ≡ true → are_in_order (map to ys) ≡ true
    picked_order [] [] p order = refl
    picked_order [] (y ∷ ys) p order = absurd p
    picked_order (x ∷ xs) [] p order = refl
    picked_order (x ∷ xs) (y ∷ ys) (inl p) order = subst (λ (n : Text). are_after n (map to ys) ≡ true) (sym (named x y p.0)) (picked_after (from x) xs ys p.1 order)
    picked_order (x ∷ xs) (y ∷ ys) (inr p) order = let h = picked_after (from x) xs (y ∷ ys) p.1 order in (and_parts (is_before (from x) (to y)) (are_after (to y) (map to ys)) h).1

-- each of names in order comes after the first
pub each_after : {Y : Type 0} (to : Y → Text) (last : Text) (ys : List Y) → are_after last (map to ys) ≡ true → (y : Y) → In y ys → is_before last (to y) ≡ true
each_after to last [] order y at = absurd at
each_after to last (z ∷ ys) order y at =
    let parts = and_parts (is_before last (to z)) (are_after (to z) (map to ys)) order in
    ⊎_elim (λ (e : y ≡ z). subst (λ (k : _). is_before last (to k) ≡ true) (sym e) parts.0) (λ h. before_on last (to z) (to y) parts.0 (each_after to (to z) ys parts.1 y h)) at

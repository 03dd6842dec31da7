-- One line more of a history.
use Rattle.std.proofs.Common.{◌≡◌, ◌<◌, ◌+◌, ◌^◌, ◌++◌, ℕ, inl, inr, true, false, List, [], ◌∷◌, Option, Some, None, refl, ap, sym, subst, ◌∙◌, append_assoc, arith}
use Rattle.std.specs.Borrow.{Bor}
use Rattle.base_model.specs.Text.{Text}
use Rattle.repo_ini.specs.Reading.{rest_pieces}
use Rattle.restore_target.specs.declared.history.Ancestor.{Ancestor}
use Rattle.restore_target.specs.History.{is_passed, IsNext, AreAncestors, IsWrongAt}
use Rattle.restore_target.proofs.Fields.{one_timeline}

module _ (own least : ℕ) (fits : own < 2 ^ 32) (p : Text) (ps : List Text) where
  -- a line that is passed over
  pub passed_right : is_passed p ≡ true → (xs : List Ancestor) → AreAncestors own least ps xs → AreAncestors own least (p ∷ ps) xs
  passed_right passed xs h = inl (passed, h)

  passed_wrong : is_passed p ≡ true → (qs : List Text) → ((xs : List Ancestor) → ¬ AreAncestors own least qs xs) → (xs : List Ancestor) → ¬ AreAncestors own least (p ∷ qs) xs
  passed_wrong passed qs none xs (inl (told, h)) = none xs h
  passed_wrong passed qs none xs (inr (told, r)) = cc (passed, told)

  pub over : is_passed p ≡ true → (n : ℕ) → IsWrongAt own least ps n → IsWrongAt own least (p ∷ ps) (n + 1)
  over passed n w = record {
    before = p ∷ w.before;
    line = w.line;
    after = w.after;
    is = ap (λ (l : List Text). p ∷ l) w.is;
    counted = omega (arith, w.counted);
    found = w.found;
    right = inl (passed, w.right);
    wrong = passed_wrong passed (w.before ++ w.line ∷ []) w.wrong;
  }

  -- a line that states an ancestor
  module _ (a : Ancestor) (told : is_passed p ≡ false) (next : IsNext own least p a) where
    pub next_right : (xs : List Ancestor) → AreAncestors own (a.timeline + 1) ps xs → AreAncestors own least (p ∷ ps) (a ∷ xs)
    next_right xs h = inr (told, (a, xs, next, refl, h))

    next_wrong : (qs : List Text) → ((xs : List Ancestor) → ¬ AreAncestors own (a.timeline + 1) qs xs) → (xs : List Ancestor) → ¬ AreAncestors own least (p ∷ qs) xs
    next_wrong qs none xs (inl (passed, h)) = cc (passed, told)
    next_wrong qs none xs (inr (again, (b, rest, other, is, h))) =
        let same : b.timeline ≡ a.timeline = one_timeline p b.timeline a.timeline b.until.0 a.until.0 (omega (arith, other.below)) (omega (arith, next.below)) other.tells next.tells in
        none rest (subst (λ (n : ℕ). AreAncestors own (n + 1) qs rest) same h)

    pub beyond : (n : ℕ) → IsWrongAt own (a.timeline + 1) ps n → IsWrongAt own least (p ∷ ps) (n + 1)
    beyond n w = record {
      before = p ∷ w.before;
      line = w.line;
      after = w.after;
      is = ap (λ (l : List Text). p ∷ l) w.is;
      counted = omega (arith, w.counted);
      found = a ∷ w.found;
      right = inr (told, (a, w.found, next, refl, w.right));
      wrong = next_wrong (w.before ++ w.line ∷ []) w.wrong;
    }

  -- a line that is wrong
  none_here : is_passed p ≡ false → ((a : Ancestor) → ¬ IsNext own least p a) → (xs : List Ancestor) → ¬ AreAncestors own least (p ∷ []) xs
  none_here told none xs (inl (passed, h)) = cc (passed, told)
  none_here told none xs (inr (again, (a, rest, next, is, h))) = none a next

  pub here : is_passed p ≡ false → ((a : Ancestor) → ¬ IsNext own least p a) → IsWrongAt own least (p ∷ ps) 1
  here told none = record {
    before = [];
    line = p;
    after = ps;
    is = refl;
    counted = refl;
    found = [];
    right = refl;
    wrong = none_here told none;
  }

module _ (own least : ℕ) (p : Text) (ps before : List Text) (is : before ≡ p ∷ ps) where
  pub right_from : (found : List Ancestor) (Q : List Ancestor → Type 0) → ((xs : List Ancestor) → AreAncestors own least before xs → Q (found ++ xs))
      → (xs : List Ancestor) → AreAncestors own least (p ∷ ps) xs → Q (found ++ xs)
  right_from found Q inv xs h = inv xs (subst (λ (b : List Text). AreAncestors own least b xs) (sym is) h)

  pub right_after : (found more : List Ancestor) (a : Ancestor) → more ≡ found ++ a ∷ [] → (Q : List Ancestor → Type 0) → ((xs : List Ancestor) → AreAncestors own least before xs → Q (found ++ xs))
      → (xs : List Ancestor) → AreAncestors own least (p ∷ ps) (a ∷ xs) → Q (more ++ xs)
  right_after found more a added Q inv xs h =
      subst Q (sym (append_assoc found (a ∷ []) xs) ∙ ap (λ (m : List Ancestor). m ++ xs) (sym added)) (right_from found Q inv (a ∷ xs) h)

  pub wrong_from : (number : ℕ) (Q : ℕ → Type 0) → ((n : ℕ) → IsWrongAt own least before n → Q (number + n))
      → (n : ℕ) → IsWrongAt own least (p ∷ ps) n → Q (number + n)
  wrong_from number Q inv n w = inv n (subst (λ (b : List Text). IsWrongAt own least b n) (sym is) w)

  pub wrong_after : (number : ℕ) (Q : ℕ → Type 0) → ((n : ℕ) → IsWrongAt own least before n → Q (number + n))
      → (n : ℕ) → IsWrongAt own least (p ∷ ps) (n + 1) → Q (number + 1 + n)
  wrong_after number Q inv n w = let same : number + (n + 1) ≡ number + 1 + n = omega arith in subst Q same (wrong_from number Q inv (n + 1) w)

pub at_end : (own least : ℕ) (o : Option (Bor (List ℕ))) → o ≡ None → AreAncestors own least (rest_pieces o) []
at_end own least None is = refl
at_end own least (Some r) is = cc

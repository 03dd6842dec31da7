-- Whether one of a list's ancestors is that of a part of the log.
use Rattle.std.proofs.Common.{◌≡◌, ◌≢◌, ◌≤◌, ◌||◌, arith, inl, inr, ⊎_elim, Option, Some, option_map, List, [], ◌∷◌, Bool, true, false, refl, sym, ap, subst}
use Rattle.std.specs.Prelude.{Decides}
use Rattle.std.specs.List.{list_any}
use Rattle.std.proofs.lemmas.Bool.Decides.{nat_tests}
use Rattle.base_model.specs.declared.wal.WalPart.{WalPart}
use Rattle.base_model.specs.Text.{In}
use Rattle.restore_target.specs.declared.history.Ancestor.{Ancestor}
use Rattle.restore_choice.specs.declared.ancestry.Ancestry as rust
use Rattle.restore_choice.specs.Choosing.{is_within, IsOnAncestor, IsOn}
use Rattle.restore_choice.specs.Views.{ancestry_of}

-- a test of a list's elements shows whether there is one of which a statement holds
-- a test of a list's elements shows whether there is one of which a statement holds
module _ {X : Type 0} (test : X → Bool) (P : X → Type 0) (decides : (x : X) → Decides (test x) (P x)) where
  first_in : (x : X) (xs : List X) (b : Bool) → test x ≡ b → (b || list_any test xs) ≡ true → (list_any test xs ≡ true → (y : X) × In y xs × P y) → (y : X) × In y (x ∷ xs) × P y
  first_in x xs true is t next = (x, inl refl, (decides x).0 is)
  first_in x xs false is t next = let r = next t in (r.0, inr r.1, r.2)

  any_in : (xs : List X) → list_any test xs ≡ true → (x : X) × In x xs × P x
  any_in [] h = cc
  any_in (x ∷ xs) h = first_in x xs (test x) refl h (any_in xs)

  or_rest : (b c : Bool) → c ≡ true → (b || c) ≡ true
  or_rest true c h = refl
  or_rest false c h = h

  in_any : (xs : List X) (x : X) → In x xs → P x → list_any test xs ≡ true
  in_any [] x i p = absurd i
  in_any (y ∷ xs) x (inl same) p = ap (λ (b : Bool). b || list_any test xs) ((decides y).1 (subst P same p))
  in_any (y ∷ xs) x (inr i) p = or_rest (test y) (list_any test xs) (in_any xs x i p)

  pub any_decides : (xs : List X) → Decides (list_any test xs) ((x : X) × In x xs × P x)
  any_decides xs = (any_in xs, λ x. in_any xs x.0 x.1 x.2)

-- a part of the log that ends on one of these timelines before that was left
within_decides : (w : WalPart) (a : Ancestor) → Decides (is_within w a) ((a.timeline ≡ w.span.stop.timeline) × (w.to.0 ≤ a.until.0))
within_decides w a = grind (arith, nat_tests)

pub on_decides : (ancestors : List Ancestor) (w : WalPart) (b : Bool) → b ≡ list_any (is_within w) ancestors → Decides b (IsOnAncestor ancestors w)
on_decides ancestors w b is = subst (λ (c : Bool). Decides c (IsOnAncestor ancestors w)) (sym is)
    (let d = any_decides (is_within w) (λ (a : Ancestor). (a.timeline ≡ w.span.stop.timeline) × (w.to.0 ≤ a.until.0)) (within_decides w) ancestors in (λ t. let x = d.0 t in (x.0, x.1, x.2.0, x.2.1), λ x. d.1 (x.0, x.1, (x.2, x.3))))

-- where it ends on another timeline than the one that is asked for
pub on_either : (ancestry : Option rust.Ancestry) (log : Option WalPart) (a : rust.Ancestry) (w : WalPart) → ancestry ≡ Some a → log ≡ Some w → w.span.stop.timeline ≢ a.timeline → (b : Bool) → b ≡ list_any (is_within w) a.ancestors.items
    → Decides b (IsOn (option_map ancestry_of ancestry) log)
on_either ancestry log a w is known other b same =
    subst (λ (o : Option rust.Ancestry). Decides b (IsOn (option_map ancestry_of o) log)) (sym is)
    (subst (λ (l : Option WalPart). Decides b (IsOn (Some (ancestry_of a)) l)) (sym known)
    (let d = on_decides a.ancestors.items w b same in (λ t. inr (d.0 t), λ x. ⊎_elim (λ (e : w.span.stop.timeline ≡ a.timeline). absurd (other e)) (λ (y : IsOnAncestor a.ancestors.items w). d.1 y) x)))

-- Sets of findings are put together.
use Rattle.std.proofs.Common.{◌≡◌, ◌⊎◌, ⊎_elim, inl, inr, ℕ, zero, suc, ◌+◌, ◌<◌, List, [], ◌∷◌, ◌++◌, length, map, take, get_or, Option, Some, None, refl, sym, ap, ◌∙◌, subst, arith, append_assoc}
use Rattle.std.specs.Prelude.{IfSome}
use Rattle.std.proofs.lemmas.List.{append-nil, take_more, map-append}
use Rattle.base_devices.specs.Content.{Content}
use Rattle.base_model.specs.Text.{Text, In}
use Rattle.base_model.proofs.Pushed.{in_left, in_either}
use Rattle.archive_lookup.proofs.Orders.{in_map}
use Rattle.cmd_verify.specs.declared.findings.finding.Finding.{Finding}
use Rattle.cmd_verify.specs.What.{What, Shows}
use Rattle.cmd_verify.specs.Adding.{Are, Adds, OfSome}

abbrev pub Property : Type 1
Property = Text → What → Type 0

-- ---- lists

pub in_right : {X : Type 0} (x : X) (xs ys : List X) → In x ys → In x (xs ++ ys)
in_right x [] ys at = at
in_right x (z ∷ xs) ys at = inr (in_right x xs ys at)

pub in_sides : {X : Type 0} (x : X) (xs ys : List X) → In x (xs ++ ys) → In x xs ⊎ In x ys
in_sides x [] ys at = inr at
in_sides x (z ∷ xs) ys (inl e) = inl (inl e)
in_sides x (z ∷ xs) ys (inr at) = ⊎_elim (λ h. inl (inr h)) (λ h. inr h) (in_sides x xs ys at)

-- it is none of those before, and not this one
pub none_more : {X : Type 0} (xs : List X) (i : ℕ) (s x : X) → i < length xs → x ≡ get_or xs i x → ¬ In s (take i xs)
    → ¬ (s ≡ x) → ¬ In s (take (i + 1) xs)
none_more {X} xs i s x lt is none other at =
    let more = ap (λ (z : X). take i xs ++ z ∷ []) is ∙ sym (take_more xs i x lt) in
    ⊎_elim none other (in_either s x (take i xs) (subst (λ (ys : List X). In s ys) (sym more) at))

pub at_place : {X : Type 0} (xs : List X) (i : ℕ) (x : X) → i < length xs → x ≡ get_or xs i x → In x xs
at_place [] i x lt is = absurd (omega arith)
at_place (y ∷ ys) zero x lt is = inl is
at_place (y ∷ ys) (suc i) x lt is = inr (at_place ys i x (omega arith) is)

-- what is made of a loop's item is among what is made of all
pub item_in : {X Y : Type 0} (h : X → Y) (xs : List X) (i : ℕ) (x : X) → i < length xs → x ≡ get_or xs i x → In (h x) (map h xs)
item_in h xs i x lt is = in_map h xs x (at_place xs i x lt is)

-- ---- one set after the other

abbrev pub Either : Property → Property → Property
Either P Q name what = P name what ⊎ Q name what

pub are_both : (P Q : Property) (xs ys : List Finding) → Are P xs → Are Q ys → Are (Either P Q) (xs ++ ys)
are_both P Q xs ys p q = record {
  each = λ x at. ⊎_elim (λ h. let k = p.each x h in (k.0, k.1, inl k.2, k.3)) (λ h. let k = q.each x h in (k.0, k.1, inr k.2, k.3)) (in_sides x xs ys at);
  all = λ name what h. ⊎_elim (λ k. let y = p.all name what k in (y.0, in_left y.0 xs ys y.1, y.2)) (λ k. let y = q.all name what k in (y.0, in_right y.0 xs ys y.1, y.2)) h;
}

pub adds_on : (P Q : Property) (a b c : List Finding) → Adds P a b → Adds Q b c → Adds (Either P Q) a c
adds_on P Q a b c p q = record {
  added = p.added ++ q.added;
  is = q.is ∙ ap (λ (xs : List Finding). xs ++ q.added) p.is ∙ append_assoc a p.added q.added;
  are = are_both P Q p.added q.added p.are q.are;
}

-- the same set by another property
pub adds_as : (P Q : Property) (a b : List Finding) → ((name : Text) (what : What) → P name what → Q name what) → ((name : Text) (what : What) → Q name what → P name what) → Adds P a b → Adds Q a b
adds_as P Q a b to from p = record {
  added = p.added;
  is = p.is;
  are = record { each = λ x at. let k = p.are.each x at in (k.0, k.1, to k.0 k.1 k.2, k.3); all = λ name what h. p.are.all name what (from name what h) };
}

pub adds_none : (P : Property) (a : List Finding) → ((name : Text) (what : What) → ¬ P name what) → Adds P a a
adds_none P a none = record { added = []; is = sym (append-nil a); are = record { each = λ x at. absurd at; all = λ name what h. absurd (none name what h) } }

pub adds_one : (P : Property) (a : List Finding) (x : Finding) (name : Text) (what : What) → P name what → Shows x name what → ((n : Text) (w : What) → P n w → (n ≡ name) × (w ≡ what)) → Adds P a (a ++ x ∷ [])
adds_one P a x name what holds shows only = record {
  added = x ∷ [];
  is = refl;
  are = record {
    each = λ y at. ⊎_elim (λ (e : y ≡ x). (name, what, holds, subst (λ (k : Finding). Shows k name what) (sym e) shows)) (λ h. absurd h) at;
    all = λ n w h. let e = only n w h in (x, inl refl, subst (λ (m : Text). Shows x m w) (sym e.0) (subst (λ (u : What). Shows x name u) (sym e.1) shows));
  };
}

-- ---- those of a list, one after the other

module _ {X : Type 0} (Q : X → Property) where
  pub some_none : (name : Text) (what : What) → ¬ OfSome Q [] name what
  some_none name what h = absurd h.1

  pub some_more : (xs : List X) (x : X) (name : Text) (what : What) → Either (OfSome Q xs) (Q x) name what → OfSome Q (xs ++ x ∷ []) name what
  some_more xs x name what (inl h) = (h.0, in_left h.0 xs (x ∷ []) h.1, h.2)
  some_more xs x name what (inr h) = (x, in_right x xs (x ∷ []) (inl refl), h)

  pub some_fewer : (xs : List X) (x : X) (name : Text) (what : What) → OfSome Q (xs ++ x ∷ []) name what → Either (OfSome Q xs) (Q x) name what
  some_fewer xs x name what h = ⊎_elim (λ k. inl (h.0, k, h.2)) (λ (e : h.0 ≡ x). inr (subst (λ (y : X). Q y name what) e h.2)) (in_either h.0 x xs h.1)

  pub adds_next : (xs : List X) (x : X) (a b c : List Finding) → Adds (OfSome Q xs) a b → Adds (Q x) b c → Adds (OfSome Q (xs ++ x ∷ [])) a c
  adds_next xs x a b c p q = adds_as (Either (OfSome Q xs) (Q x)) (OfSome Q (xs ++ x ∷ [])) a c (some_more xs x) (some_fewer xs x) (adds_on (OfSome Q xs) (Q x) a b c p q)

-- a loop over a list, where what the disk holds is known
module _ {Y : Type 0} (Q : Content → Y → Property) where
  pub loop_start : (o : Option Content) (a : List Finding) → IfSome o (λ f. Adds (OfSome (Q f) []) a a)
  loop_start None a = tt
  loop_start (Some f) a = adds_none (OfSome (Q f) []) a (some_none (Q f))

  pub loop_next : (o now : Option Content) (xs : List Y) (y : Y) (a b c : List Finding) → now ≡ o → IfSome o (λ f. Adds (OfSome (Q f) xs) a b) → IfSome now (λ f. Adds (Q f y) b c) → IfSome o (λ f. Adds (OfSome (Q f) (xs ++ y ∷ [])) a c)
  loop_next None now xs y a b c same p q = tt
  loop_next (Some f) now xs y a b c same p q = adds_next (Q f) xs y a b c p (let R : Option Content → Type 0 = λ o. IfSome o (λ f. Adds (Q f y) b c) in let at : R (Some f) = subst R same q in at)

  -- the loop's step, where the list is what is made of another
  pub loop_step : {X : Type 0} (h : X → Y) (o now : Option Content) (all : List X) (i : ℕ) (x : X) (a b c : List Finding) → i < length all → x ≡ get_or all i x → now ≡ o
      → IfSome o (λ f. Adds (OfSome (Q f) (map h (take i all))) a b) → IfSome now (λ f. Adds (Q f (h x)) b c) → IfSome o (λ f. Adds (OfSome (Q f) (map h (take (i + 1) all))) a c)
  loop_step h o now all i x a b c lt is same p q =
      let more : map h (take i all) ++ h x ∷ [] ≡ map h (take (i + 1) all) =
      sym (map-append h (take i all) (x ∷ [])) ∙ ap (λ z. map h (take i all ++ z ∷ [])) is ∙ sym (ap (map h) (take_more all i x lt)) in
      subst (λ (ys : List Y). IfSome o (λ f. Adds (OfSome (Q f) ys) a c)) more (loop_next o now (map h (take i all)) (h x) a b c same p q)

  -- the same over the list itself
  pub loop_own : (o now : Option Content) (all : List Y) (i : ℕ) (y : Y) (a b c : List Finding) → i < length all → y ≡ get_or all i y → now ≡ o
      → IfSome o (λ f. Adds (OfSome (Q f) (take i all)) a b) → IfSome now (λ f. Adds (Q f y) b c) → IfSome o (λ f. Adds (OfSome (Q f) (take (i + 1) all)) a c)
  loop_own o now all i y a b c lt is same p q =
      subst (λ (ys : List Y). IfSome o (λ f. Adds (OfSome (Q f) ys) a c)) (ap (λ (z : Y). take i all ++ z ∷ []) is ∙ sym (take_more all i y lt)) (loop_next o now (take i all) y a b c same p q)

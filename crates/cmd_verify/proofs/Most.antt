-- Sets of findings of which some may be reported elsewhere.
use Rattle.std.proofs.Common.{◌≡◌, ⊎_elim, inl, inr, ℕ, ◌+◌, ◌<◌, List, [], ◌∷◌, ◌++◌, length, map, take, get_or, Option, Some, None, sym, ap, ◌∙◌, subst, append_assoc}
use Rattle.std.specs.Prelude.{IfSome}
use Rattle.std.proofs.lemmas.List.{append-nil, take_more, map-append}
use Rattle.base_devices.specs.Content.{Content}
use Rattle.base_model.specs.Text.{Text, In}
use Rattle.base_model.proofs.Pushed.{in_left}
use Rattle.cmd_verify.specs.declared.findings.finding.Finding.{Finding}
use Rattle.cmd_verify.specs.What.{What, Shows}
use Rattle.cmd_verify.specs.Adding.{Adds, AddsMost, OfSome}
use Rattle.cmd_verify.proofs.Adding.{Property, Either, in_right, in_sides, some_more, some_fewer, some_none}

abbrev Known : List Finding → Property
Known found name what = (x : Finding) × In x found × Shows x name what

-- all of a set that is reported here
pub most_of : (P O E : Property) (a b : List Finding) → ((name : Text) (what : What) → O name what → P name what) → Adds P a b → AddsMost P O E a b
most_of P O E a b of p = record { added = p.added; is = p.is; each = p.are.each; own = λ name what h. p.are.all name what (of name what h); rest = λ name what h. inl (p.are.all name what h) }

pub most_none : (P O E : Property) (a : List Finding) → ((name : Text) (what : What) → ¬ O name what) → ((name : Text) (what : What) → P name what → E name what) → AddsMost P O E a a
most_none P O E a none there = record { added = []; is = sym (append-nil a); each = λ x at. absurd at; own = λ name what h. absurd (none name what h); rest = λ name what h. inr (there name what h) }

-- the same by other properties
pub most_as : (P Q O R E : Property) (a b : List Finding) → ((name : Text) (what : What) → P name what → Q name what) → ((name : Text) (what : What) → Q name what → P name what)
    → ((name : Text) (what : What) → R name what → O name what) → AddsMost P O E a b → AddsMost Q R E a b
most_as P Q O R E a b to from of p = record {
  added = p.added;
  is = p.is;
  each = λ x at. let k = p.each x at in (k.0, k.1, to k.0 k.1 k.2, k.3);
  own = λ name what h. p.own name what (of name what h);
  rest = λ name what h. p.rest name what (from name what h);
}

pub most_on : (P Q O R E : Property) (a b c : List Finding) → AddsMost P O E a b → AddsMost Q R E b c → AddsMost (Either P Q) (Either O R) E a c
most_on P Q O R E a b c p q = record {
  added = p.added ++ q.added;
  is = q.is ∙ ap (λ (xs : List Finding). xs ++ q.added) p.is ∙ append_assoc a p.added q.added;
  each = λ x at. ⊎_elim (λ h. let k = p.each x h in (k.0, k.1, inl k.2, k.3)) (λ h. let k = q.each x h in (k.0, k.1, inr k.2, k.3)) (in_sides x p.added q.added at);
  own = λ name what h. ⊎_elim (λ k. left name what (p.own name what k)) (λ k. right name what (q.own name what k)) h;
  rest = λ name what h. ⊎_elim (λ k. ⊎_elim (λ t. inl (left name what t)) (λ e. inr e) (p.rest name what k)) (λ k. ⊎_elim (λ t. inl (right name what t)) (λ e. inr e) (q.rest name what k)) h;
}
  where
    left : (name : Text) (what : What) → Known p.added name what → Known (p.added ++ q.added) name what
    left name what t = (t.0, in_left t.0 p.added q.added t.1, t.2)

    right : (name : Text) (what : What) → Known q.added name what → Known (p.added ++ q.added) name what
    right name what t = (t.0, in_right t.0 p.added q.added t.1, t.2)

-- where what is elsewhere is the own of one of them, all is reported
pub most_all : (P O E : Property) (a b : List Finding) → ((name : Text) (what : What) → E name what → O name what) → AddsMost P O E a b → Adds P a b
most_all P O E a b there p = record {
  added = p.added;
  is = p.is;
  are = record { each = p.each; all = λ name what h. ⊎_elim (λ t. t) (λ e. p.own name what (there name what e)) (p.rest name what h) };
}

-- ---- those of a list, one after the other

pub most_next : {X : Type 0} (Q R : X → Property) (E : Property) (xs : List X) (x : X) (a b c : List Finding) → AddsMost (OfSome Q xs) (OfSome R xs) E a b → AddsMost (Q x) (R x) E b c
    → AddsMost (OfSome Q (xs ++ x ∷ [])) (OfSome R (xs ++ x ∷ [])) E a c
most_next Q R E xs x a b c p q = most_as (Either (OfSome Q xs) (Q x)) (OfSome Q (xs ++ x ∷ [])) (Either (OfSome R xs) (R x)) (OfSome R (xs ++ x ∷ [])) E a c (some_more Q xs x) (some_fewer Q xs x) (some_fewer R xs x)
    (most_on (OfSome Q xs) (Q x) (OfSome R xs) (R x) E a b c p q)

-- a loop over a list, where what the disk holds is known
module _ {Y : Type 0} (Q R : Content → Y → Property) (E : Content → Property) where
  pub most_start : (o : Option Content) (a : List Finding) → IfSome o (λ f. AddsMost (OfSome (Q f) []) (OfSome (R f) []) (E f) a a)
  most_start None a = tt
  most_start (Some f) a = most_none (OfSome (Q f) []) (OfSome (R f) []) (E f) a (some_none (R f)) (λ name what h. absurd (some_none (Q f) name what h))

  most_more : (o now : Option Content) (xs : List Y) (y : Y) (a b c : List Finding) → now ≡ o → IfSome o (λ f. AddsMost (OfSome (Q f) xs) (OfSome (R f) xs) (E f) a b) → IfSome now (λ f. AddsMost (Q f y) (R f y) (E f) b c)
      → IfSome o (λ f. AddsMost (OfSome (Q f) (xs ++ y ∷ [])) (OfSome (R f) (xs ++ y ∷ [])) (E f) a c)
  most_more None now xs y a b c same p q = tt
  most_more (Some f) now xs y a b c same p q =
      most_next (Q f) (R f) (E f) xs y a b c p (let S : Option Content → Type 0 = λ o. IfSome o (λ f. AddsMost (Q f y) (R f y) (E f) b c) in let at : S (Some f) = subst S same q in at)

  -- the loop's step, where the list is what is made of another
  pub most_step : {X : Type 0} (h : X → Y) (o now : Option Content) (all : List X) (i : ℕ) (x : X) (a b c : List Finding) → i < length all → x ≡ get_or all i x → now ≡ o
      → IfSome o (λ f. AddsMost (OfSome (Q f) (map h (take i all))) (OfSome (R f) (map h (take i all))) (E f) a b) → IfSome now (λ f. AddsMost (Q f (h x)) (R f (h x)) (E f) b c)
      → IfSome o (λ f. AddsMost (OfSome (Q f) (map h (take (i + 1) all))) (OfSome (R f) (map h (take (i + 1) all))) (E f) a c)
  most_step h o now all i x a b c lt is same p q =
      let more : map h (take i all) ++ h x ∷ [] ≡ map h (take (i + 1) all) =
      sym (map-append h (take i all) (x ∷ [])) ∙ ap (λ z. map h (take i all ++ z ∷ [])) is ∙ sym (ap (map h) (take_more all i x lt)) in
      subst (λ (ys : List Y). IfSome o (λ f. AddsMost (OfSome (Q f) ys) (OfSome (R f) ys) (E f) a c)) more (most_more o now (map h (take i all)) (h x) a b c same p q)

  -- the same over the list itself
  pub most_own_step : (o now : Option Content) (all : List Y) (i : ℕ) (y : Y) (a b c : List Finding) → i < length all → y ≡ get_or all i y → now ≡ o
      → IfSome o (λ f. AddsMost (OfSome (Q f) (take i all)) (OfSome (R f) (take i all)) (E f) a b) → IfSome now (λ f. AddsMost (Q f y) (R f y) (E f) b c)
      → IfSome o (λ f. AddsMost (OfSome (Q f) (take (i + 1) all)) (OfSome (R f) (take (i + 1) all)) (E f) a c)
  most_own_step o now all i y a b c lt is same p q =
      subst (λ (ys : List Y). IfSome o (λ f. AddsMost (OfSome (Q f) ys) (OfSome (R f) ys) (E f) a c)) (ap (λ (z : Y). take i all ++ z ∷ []) is ∙ sym (take_more all i y lt)) (most_more o now (take i all) y a b c same p q)

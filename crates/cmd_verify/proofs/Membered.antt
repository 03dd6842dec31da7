-- The members of a pair, judged.
use Rattle.std.proofs.Common.{◌≡◌, ◌≢◌, inl, inr, List, [], ◌∷◌, ◌++◌, Option, Some, None, Vec, refl, sym, ap, ◌∙◌, subst, ℕ}
use Rattle.std.specs.Prelude.{IfSome, IsSomeAnd, string_bytes, bytes_eq, Bool, true, false, not}
use Rattle.std.proofs.lemmas.Bool.{false≢true}
use Rattle.std.proofs.lemmas.Slice.Eq.{bytes_eq-Decides}
use Rattle.std.specs.declared.alloc.Global.{Global}
use Rattle.base_devices.specs.Content.{Content, Value}
use Rattle.base_model.specs.Text.{Text}
use Rattle.base_model.specs.Names.{copy_of}
use Rattle.cmd_verify.specs.declared.findings.finding.Finding.{Finding}
use Rattle.cmd_verify.specs.declared.findings.pairs.Member.{Member}
use Rattle.cmd_verify.specs.declared.findings.pairs.Member.TheVariants as member
use Rattle.cmd_verify.specs.What.{What, MemberAbsent, MemberBad, MembersDiffer, Absent, Short, Digest, Second, Gap, Reference, Unlike, Contradicts, kind_of, line_of}
use Rattle.cmd_verify.specs.Adding.{Adds}
use Rattle.cmd_verify.specs.Findings.{IsText, MemberDeviates, BothDeviate, PairDeviates, OfMain, OfCopy, OfBoth}
use Rattle.cmd_verify.specs.Members.{MemberSo}
use Rattle.cmd_verify.proofs.Values.{not_none, some_at, value_of, same_some}
use Rattle.cmd_verify.proofs.Adding.{Either, adds_one, adds_none, adds_on, adds_as}

module _ {X V : Type 0} (IsTextOf : V → Text → Type 0) (value : X → V) where
  so_absent : (v : Value) → MemberSo IsTextOf value v member.Absent → v ≡ None
  so_absent None h = refl
  so_absent (Some b) h = absurd h

  so_bad : (v : Value) → MemberSo IsTextOf value v member.Bad → (b : Text) × (v ≡ Some b) × ((w : V) → ¬ IsTextOf w b)
  so_bad None h = absurd h
  so_bad (Some b) h = (b, refl, h)

  so_good : (v : Value) (bytes : Vec ℕ Global) (x : X) → MemberSo IsTextOf value v (member.Good bytes x) → (v ≡ Some bytes.items) × IsTextOf (value x) bytes.items
  so_good None bytes x h = absurd h
  so_good (Some b) bytes x h = (ap Some (sym h.0), subst (λ (t : Text). IsTextOf (value x) t) (sym h.0) h.1)

  module _ (f : Content) (at : Text) (m : Member X) (so : MemberSo IsTextOf value (f at) m) (a : List Finding) where
    pub absent_adds : m ≡ member.Absent → (x : Finding) → string_bytes x.name ≡ at → x.kind ≡ kind_of MemberAbsent → string_bytes x.line ≡ line_of MemberAbsent → Adds (MemberDeviates IsTextOf f at) a (a ++ x ∷ [])
    absent_adds is x named kind line =
        let none = so_absent (f at) (subst (λ (k : Member X). MemberSo IsTextOf value (f at) k) is so) in
        adds_one (MemberDeviates IsTextOf f at) a x at MemberAbsent (refl, none) (record { named = named; kind = kind; line = line }) (only none)
      where
        only : f at ≡ None → (n : Text) (w : What) → MemberDeviates IsTextOf f at n w → (n ≡ at) × (w ≡ MemberAbsent)
        only none n MemberAbsent d = (d.0, refl)
        only none n MemberBad d = let b = value_of (λ t. ¬ IsText IsTextOf t) (f at) d.1 in absurd (not_none (f at) b.0 b.1 none)
        only none n MembersDiffer d = absurd d
        only none n Absent d = absurd d
        only none n (Short t k) d = absurd d
        only none n (Digest t k) d = absurd d
        only none n (Second s) d = absurd d
        only none n (Gap s) d = absurd d
        only none n (Reference l) d = absurd d
        only none n Unlike d = absurd d
        only none n (Contradicts t) d = absurd d

    pub bad_adds : m ≡ member.Bad → (x : Finding) → string_bytes x.name ≡ at → x.kind ≡ kind_of MemberBad → string_bytes x.line ≡ line_of MemberBad → Adds (MemberDeviates IsTextOf f at) a (a ++ x ∷ [])
    bad_adds is x named kind line =
        let bad = so_bad (f at) (subst (λ (k : Member X). MemberSo IsTextOf value (f at) k) is so) in
        let holds : IsSomeAnd (f at) (λ bytes. ¬ IsText IsTextOf bytes) = subst (λ (v : Value). IsSomeAnd v (λ bytes. ¬ IsText IsTextOf bytes)) (sym bad.1) (λ t. bad.2 t.0 t.1) in
        adds_one (MemberDeviates IsTextOf f at) a x at MemberBad (refl, holds) (record { named = named; kind = kind; line = line }) (only bad.0 bad.1)
      where
        only : (b : Text) → f at ≡ Some b → (n : Text) (w : What) → MemberDeviates IsTextOf f at n w → (n ≡ at) × (w ≡ MemberBad)
        only b is n MemberAbsent d = absurd (not_none (f at) b is d.1)
        only b is n MemberBad d = (d.0, refl)
        only b is n MembersDiffer d = absurd d
        only b is n Absent d = absurd d
        only b is n (Short t k) d = absurd d
        only b is n (Digest t k) d = absurd d
        only b is n (Second s) d = absurd d
        only b is n (Gap s) d = absurd d
        only b is n (Reference l) d = absurd d
        only b is n Unlike d = absurd d
        only b is n (Contradicts t) d = absurd d

    pub good_adds : (bytes : Vec ℕ Global) (x : X) → m ≡ member.Good bytes x → Adds (MemberDeviates IsTextOf f at) a a
    good_adds bytes x is = adds_none (MemberDeviates IsTextOf f at) a none
      where
        good : (f at ≡ Some bytes.items) × IsTextOf (value x) bytes.items
        good = so_good (f at) bytes x (subst (λ (k : Member X). MemberSo IsTextOf value (f at) k) is so)

        none : (n : Text) (w : What) → ¬ MemberDeviates IsTextOf f at n w
        none n MemberAbsent d = not_none (f at) bytes.items good.0 d.1
        none n MemberBad d = some_at (λ t. ¬ IsText IsTextOf t) (f at) bytes.items good.0 d.1 (value x, good.1)
        none n MembersDiffer d = d
        none n Absent d = d
        none n (Short t k) d = d
        none n (Digest t k) d = d
        none n (Second s) d = d
        none n (Gap s) d = d
        none n (Reference l) d = d
        none n Unlike d = d
        none n (Contradicts t) d = d

    -- a member that isn't good is no text of the kind
    pub no_text : ((bytes : Vec ℕ Global) (x : X) → m ≡ member.Good bytes x → ⊥) → IsSomeAnd (f at) (IsText IsTextOf) → ⊥
    no_text other text = by m refl
      where
        by : (k : Member X) → m ≡ k → ⊥
        by member.Absent e = let t = value_of (IsText IsTextOf) (f at) text in not_none (f at) t.0 t.1 (so_absent (f at) (subst (λ (k : Member X). MemberSo IsTextOf value (f at) k) e so))
        by member.Bad e =
            let bad = so_bad (f at) (subst (λ (k : Member X). MemberSo IsTextOf value (f at) k) e so) in
            let t = some_at (IsText IsTextOf) (f at) bad.0 bad.1 text in bad.2 t.0 t.1
        by (member.Good bytes x) e = other bytes x e

  module _ (f : Content) (main : Text) (a : List Finding) where
    texts : (n : Text) (w : What) → BothDeviate IsTextOf f main n w → (n ≡ main) × (w ≡ MembersDiffer) × ((b c : Text) × (f main ≡ Some b) × (f (copy_of main) ≡ Some c) × IsText IsTextOf b × IsText IsTextOf c × (b ≢ c))
    texts n MembersDiffer d =
        let x = value_of (λ b. IsSomeAnd (f (copy_of main)) (λ c. IsText IsTextOf b × IsText IsTextOf c × (b ≢ c))) (f main) d.1 in
        let y = value_of (λ c. IsText IsTextOf x.0 × IsText IsTextOf c × (x.0 ≢ c)) (f (copy_of main)) x.2 in
        (d.0, refl, (x.0, y.0, x.1, y.1, y.2.0, y.2.1, y.2.2))
    texts n MemberAbsent d = absurd d
    texts n MemberBad d = absurd d
    texts n Absent d = absurd d
    texts n (Short t k) d = absurd d
    texts n (Digest t k) d = absurd d
    texts n (Second s) d = absurd d
    texts n (Gap s) d = absurd d
    texts n (Reference l) d = absurd d
    texts n Unlike d = absurd d
    texts n (Contradicts t) d = absurd d

    some_text : (at : Text) (b : Text) → f at ≡ Some b → IsText IsTextOf b → IsSomeAnd (f at) (IsText IsTextOf)
    some_text at b is t = subst (λ (v : Value). IsSomeAnd v (IsText IsTextOf)) (sym is) t

    pub main_other : (IsSomeAnd (f main) (IsText IsTextOf) → ⊥) → Adds (BothDeviate IsTextOf f main) a a
    main_other none = adds_none (BothDeviate IsTextOf f main) a (λ n w d. let t = (texts n w d).2 in none (some_text main t.0 t.2 t.4))

    pub copy_other : (IsSomeAnd (f (copy_of main)) (IsText IsTextOf) → ⊥) → Adds (BothDeviate IsTextOf f main) a a
    copy_other none = adds_none (BothDeviate IsTextOf f main) a (λ n w d. let t = (texts n w d).2 in none (some_text (copy_of main) t.1 t.3 t.5))

    module _ (bytes other : Vec ℕ Global) (x y : X) (p : MemberSo IsTextOf value (f main) (member.Good bytes x)) (q : MemberSo IsTextOf value (f (copy_of main)) (member.Good other y)) where
      pub both_same : bytes.items ≡ other.items → Adds (BothDeviate IsTextOf f main) a a
      both_same same = adds_none (BothDeviate IsTextOf f main) a (λ n w d.
          let t = (texts n w d).2 in
          t.6 (same_some (f main) t.0 bytes.items t.2 (so_good (f main) bytes x p).0 ∙ same ∙ same_some (f (copy_of main)) other.items t.1 (so_good (f (copy_of main)) other y q).0 t.3))

      pub both_differ : bytes.items ≢ other.items → (z : Finding) → string_bytes z.name ≡ main → z.kind ≡ kind_of MembersDiffer → string_bytes z.line ≡ line_of MembersDiffer → Adds (BothDeviate IsTextOf f main) a (a ++ z ∷ [])
      both_differ apart z named kind line =
          let g = so_good (f main) bytes x p in
          let h = so_good (f (copy_of main)) other y q in
          let inner : IsSomeAnd (f (copy_of main)) (λ c. IsText IsTextOf bytes.items × IsText IsTextOf c × (bytes.items ≢ c)) =
          subst (λ (v : Value). IsSomeAnd v (λ c. IsText IsTextOf bytes.items × IsText IsTextOf c × (bytes.items ≢ c))) (sym h.0) ((value x, g.1), (value y, h.1), apart) in
          let holds : IsSomeAnd (f main) (λ b. IsSomeAnd (f (copy_of main)) (λ c. IsText IsTextOf b × IsText IsTextOf c × (b ≢ c))) =
          subst (λ (v : Value). IsSomeAnd v (λ b. IsSomeAnd (f (copy_of main)) (λ c. IsText IsTextOf b × IsText IsTextOf c × (b ≢ c)))) (sym g.0) inner in
          adds_one (BothDeviate IsTextOf f main) a z main MembersDiffer (refl, holds) (record { named = named; kind = kind; line = line }) (λ n w d. let t = texts n w d in (t.0, t.1))

    -- the parts are the pair
    pair_to : (n : Text) (w : What) → Either (MemberDeviates IsTextOf f main) (Either (MemberDeviates IsTextOf f (copy_of main)) (BothDeviate IsTextOf f main)) n w → PairDeviates IsTextOf f main n w
    pair_to n w (inl h) = OfMain h
    pair_to n w (inr (inl h)) = OfCopy h
    pair_to n w (inr (inr h)) = OfBoth h

    pair_back : (n : Text) (w : What) → PairDeviates IsTextOf f main n w → Either (MemberDeviates IsTextOf f main) (Either (MemberDeviates IsTextOf f (copy_of main)) (BothDeviate IsTextOf f main)) n w
    pair_back n w (OfMain h) = inl h
    pair_back n w (OfCopy h) = inr (inl h)
    pair_back n w (OfBoth h) = inr (inr h)

    pub pair_adds : (b c d : List Finding) → Adds (MemberDeviates IsTextOf f main) a b → Adds (MemberDeviates IsTextOf f (copy_of main)) b c → Adds (BothDeviate IsTextOf f main) c d → Adds (PairDeviates IsTextOf f main) a d
    pair_adds b c d p q r = adds_as _ (PairDeviates IsTextOf f main) a d pair_to pair_back (adds_on _ _ a b d p (adds_on (MemberDeviates IsTextOf f (copy_of main)) (BothDeviate IsTextOf f main) b c d q r))

  pub pair_known : (o p : Option Content) (main one two : Text) (m k : Member X) (a b c d : List Finding) → one ≡ copy_of main → two ≡ copy_of main → p ≡ o
      → IfSome o (λ f. MemberSo IsTextOf value (f main) m) → IfSome p (λ f. MemberSo IsTextOf value (f one) k)
      → ((f : Content) → MemberSo IsTextOf value (f main) m → Adds (MemberDeviates IsTextOf f main) a b)
      → ((f : Content) → MemberSo IsTextOf value (f two) k → Adds (MemberDeviates IsTextOf f two) b c)
      → ((f : Content) → MemberSo IsTextOf value (f main) m → MemberSo IsTextOf value (f (copy_of main)) k → Adds (BothDeviate IsTextOf f main) c d)
      → IfSome o (λ f. Adds (PairDeviates IsTextOf f main) a d)
  pair_known None p main one two m k a b c d e e2 same q r x y z = tt
  pair_known (Some f) p main one two m k a b c d e e2 same q r x y z =
      let here : MemberSo IsTextOf value (f one) k = let Q : Option Content → Type 0 = λ o. IfSome o (λ f. MemberSo IsTextOf value (f one) k) in let at : Q (Some f) = subst Q same r in at in
      let copy : MemberSo IsTextOf value (f (copy_of main)) k = subst (λ (n : Text). MemberSo IsTextOf value (f n) k) e here in
      let second = subst (λ (n : Text). Adds (MemberDeviates IsTextOf f n) b c) e2 (y f (subst (λ (n : Text). MemberSo IsTextOf value (f n) k) (sym e2) copy)) in
      pair_adds f main a b c d (x f q) second (z f q copy)

by_not : (b : Bool) → true ≡ not b → b ≡ false
by_not true e = cc e
by_not false e = refl

by_yes : (b : Bool) → false ≡ not b → b ≡ true
by_yes true e = refl
by_yes false e = cc e

pub apart_of : (a b : Text) → true ≡ not (bytes_eq a b) → a ≢ b
apart_of a b e same = false≢true (sym (by_not (bytes_eq a b) e) ∙ (bytes_eq-Decides a b).1 same)

pub same_of : (a b : Text) → false ≡ not (bytes_eq a b) → a ≡ b
same_of a b e = (bytes_eq-Decides a b).0 (by_yes (bytes_eq a b) e)

-- Calls one after another, and what they may leave.
use Rattle.std.proofs.Common.{◌≡◌, ◌≢◌, ◌≤◌, ◌⊎◌, ℕ, Bool, true, false, List, [], ◌∷◌, Option, Some, None, refl, sym, ◌∙◌, ap, subst, arith, inl, inr, ⊎_elim}
use Rattle.std.specs.Prelude.{IsTrue, IsSome, IfSome}
use Rattle.std.proofs.lemmas.Bool.{false_from_ne_true}
use Rattle.base_devices.specs.Content.{Name, Value, Content, Holds, at}
use Rattle.base_devices.specs.Moments.{View, IsImage, GrowsBy, is_unsynced, MayKeep}
use Rattle.base_devices.specs.Crash.{IsTemporary, Leaves, Crash, Ends}
use Rattle.backup_sink.specs.Relation.{Touches}
use Rattle.backup_sink.specs.Way.{Way}

abbrev Step : Type 1
Step = Content → Content → Type 0

abbrev pub Law : View → Type 0
Law v = (n : Name) (x : Value) → Holds v.now n x → MayKeep v n x ⊎ (is_unsynced v n ≡ true)

either : (t b : ℕ) → (t ≤ b) ⊎ (b ≤ t)
either t b = grind arith

-- a call that writes by temporary names
pub way_of : (may : Name → Type 0) (S T : Step) (a b : View) → ((n : Name) → IsTemporary n → may n) → ((f g : Content) → S f g → T f g) → Crash S a b → Way may T a b
way_of may S T a b wide step p = record {
  later = p.later;
  past = p.past;
  past_unsynced = p.past_unsynced;
  known = p.known;
  synced = λ t n lo hi off h. p.synced t n lo hi (λ temp. off (wide n temp)) h;
  comes = λ s t g lo hi leaves. let x = p.comes s t g lo hi leaves in (x.0, x.1, step x.0 g x.2);
}

pub way_as : (may : Name → Type 0) (S T : Step) (a b : View) → (IsSome a.now → (f g : Content) → S f g → T f g) → Way may S a b → Way may T a b
way_as may S T a b step p = record {
  later = p.later;
  past = p.past;
  past_unsynced = p.past_unsynced;
  known = p.known;
  synced = p.synced;
  comes = λ s t g lo hi leaves. let x = p.comes s t g lo hi leaves in (x.0, x.1, step s x.0 g x.2);
}

past_image : (may : Name → Type 0) (S : Step) (b c : View) (t : ℕ) (g : Content) → Way may S b c → t ≤ b.moment → IsImage c t g → IsImage b t g
past_image may S b c t g q le image n = ⊎_elim (λ k. inl (q.past t n (g n) le k)) (λ h. inr (sym (q.past_unsynced t n le) ∙ h.0, h.1)) (image n)

-- a call after another: at its own moments all comes by way of what the first left at its end
pub way_on : (may : Name → Type 0) (S T U : Step) (a b c : View) → Way may S a b → Way may T b c → ((f g : Content) → S f g → U f g)
    → (IsSome b.now → (f g h : Content) → Leaves b b.moment g → S f g → T g h → U f h) → Way may U a c
way_on may S T U a b c p q first both = record {
  later = omega (arith, p.later, q.later);
  past = λ t n v le h. p.past t n v le (q.past t n v (omega (arith, le, p.later)) h);
  past_unsynced = λ t n le. q.past_unsynced t n (omega (arith, le, p.later)) ∙ p.past_unsynced t n le;
  known = λ s. q.known (p.known s);
  synced = λ t n lo hi apart h. ⊎_elim
      (λ (le : t ≤ b.moment). q.past_unsynced t n le ∙ p.synced t n lo le apart h)
      (λ (ge : b.moment ≤ t). q.synced t n ge hi apart (p.synced b.moment n p.later (omega arith) apart h))
      (either t b.moment);
  comes = λ s t g lo hi leaves. ⊎_elim (λ now. following s c.moment g q.later (omega arith) (inl now))
      (λ image. ⊎_elim
      (λ (le : t ≤ b.moment). let x = p.comes s t g lo le (inr (past_image may T b c t g q le image)) in (x.0, x.1, first x.0 g x.2))
      (λ (ge : b.moment ≤ t). following s t g ge hi (inr image))
      (either t b.moment)) leaves;
}
  where
    following : IsSome a.now → (t : ℕ) (h : Content) → b.moment ≤ t → t ≤ c.moment → Leaves c t h → (f : Content) × Leaves a a.moment f × U f h
    following s t h lo hi leaves =
        let x = q.comes (p.known s) t h lo hi leaves in
        let y = p.comes s b.moment x.0 p.later (omega arith) x.1 in (y.0, y.1, both (p.known s) y.0 x.0 h x.1 y.2 x.2)

-- ---- calls at own names

module _ (own : Name → Bool) (a b : View) (p : Touches own a b) (law : Law a) (outside : (q : Name) × (own q ≡ false)) where
  abbrev pub Same : Content → Content → Type 0
  Same f g = (n : Name) → own n ≡ false → g n ≡ f n

  some_at : (o w : Option Content) (q : Name) → at q w ≡ at q o → IsSome o → IsSome w
  some_at None w q e s = cc
  some_at (Some f) (Some g) q e s = refl
  some_at (Some f) None q e s = cc

  some_eq : (v w : Value) → ◌≡◌ {A = Option Value} (Some v) (Some w) → v ≡ w
  some_eq v w e = cc

  chosen : Content → (Name → Value) → Content
  chosen g pick n = by (own n)
    where
      by : Bool → Value
      by true = pick n
      by false = g n

  -- some value may be left at each name
  pick : (f : Content) → a.now ≡ Some f → (n : Name) → (x : Value) × (a.kept a.moment n x ⊎ (IsTrue (a.unsynced a.moment n) × IsSome x))
  pick f is n = ⊎_elim (λ k. (f n, inl k)) (λ l. (Some [], inr (l, refl))) (law n (f n) (subst (λ (o : Option Content). Holds o n (f n)) (sym is) refl))

  old : (f : Content) → a.now ≡ Some f → (t : ℕ) (g : Content) → a.moment ≤ t → t ≤ b.moment → IsImage b t g → (h : Content) × Leaves a a.moment h × Same h g
  unfolding chosen
  old f is t g lo hi image = (
    chosen g (λ n. (pick f is n).0),
    inr (λ n. left n (own n) refl),
    λ n off. same n (own n) refl off,
  )
    where
      left : (n : Name) (q : Bool) → own n ≡ q → a.kept a.moment n (chosen g (λ n. (pick f is n).0) n) ⊎ (IsTrue (a.unsynced a.moment n) × IsSome (chosen g (λ n. (pick f is n).0) n))
      left n q e = go q e
        where
          go : (q : Bool) → own n ≡ q → a.kept a.moment n (chosen g (λ n. (pick f is n).0) n) ⊎ (IsTrue (a.unsynced a.moment n) × IsSome (chosen g (λ n. (pick f is n).0) n))
          go true e = rw e (pick f is n).1
          go false e = rw e (⊎_elim
              (λ (k : b.kept t n (g n)). ⊎_elim (λ was. inl was) (λ (x : own n ≡ true). let u : ◌≡◌ {A = Bool} false true = sym e ∙ x in cc) (p.time.grows t n (g n) lo hi k))
              (λ h. ⊎_elim (λ was. inr (was, h.1)) (λ (x : own n ≡ true). let u : ◌≡◌ {A = Bool} false true = sym e ∙ x in cc) (p.time.unsyncs t n lo hi h.0))
              (image n))

      same : (n : Name) (q : Bool) → own n ≡ q → own n ≡ false → g n ≡ chosen g (λ n. (pick f is n).0) n
      same n q e off = rw off refl

  known : IsSome a.now → IsSome b.now
  known s = some_at a.now b.now outside.0 (p.now outside.0 outside.1) s

  pub way_touches : (may : Name → Type 0) → ((n : Name) → own n ≡ true → may n) → Way may Same a b
  way_touches may wide = record {
    later = p.time.later;
    past = p.time.same;
    past_unsynced = p.time.same_unsynced;
    known = known;
    synced = λ t n lo hi off h. false_from_ne_true (b.unsynced t n) (λ (is : b.unsynced t n ≡ true). ⊎_elim (λ (was : a.unsynced a.moment n ≡ true). let u : ◌≡◌ {A = Bool} true false = sym was ∙ h in cc) (λ (x : own n ≡ true). off (wide n x)) (p.time.unsyncs t n lo hi is));
    comes = λ s t g lo hi leaves. from a.now refl s t g lo hi leaves;
  }
    where
      from : (o : Option Content) → a.now ≡ o → IsSome o → (t : ℕ) (g : Content) → a.moment ≤ t → t ≤ b.moment → Leaves b t g → (f : Content) × Leaves a a.moment f × Same f g
      from None is s t g lo hi leaves = cc
      from (Some f) is s t g lo hi leaves = ⊎_elim
          (λ (now : b.now ≡ Some g). (f, inl is, λ n off. some_eq (g n) (f n) (ap (at n) (sym now) ∙ p.now n off ∙ ap (at n) is)))
          (λ (image : IsImage b t g). old f is t g lo hi image)
          leaves

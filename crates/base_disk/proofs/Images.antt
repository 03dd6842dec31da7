-- What a write by way of a temporary name may leave, from what it may add.
use Rattle.std.specs.Prelude.{◌≡◌, ◌≢◌, ◌⊎◌, ℕ, Bool, true, false, List, [], ◌∷◌, Option, Some, None, IsSome, IsTrue, refl, bytes_eq, if◌then◌else◌}
use Rattle.std.proofs.Common.{sym, ◌∙◌, ap, subst, inl, inr, arith, ⊎_elim, ◌≤◌}
use Rattle.std.proofs.lemmas.Grind.{common_steps}
use Rattle.std.proofs.lemmas.Slice.Eq.{bytes_eq-Decides}
use Rattle.base_devices.specs.Content.{Name, Value, Content, put, Holds}
use Rattle.base_devices.specs.Moments.{View, IsImage, GrowsBy, is_unsynced, MayKeep}
use Rattle.base_devices.proofs.Steps.{same_put}
use Rattle.base_devices.specs.Crash.{IsTemporary, Alike, Leaves, Crash, Ends, NowChanges, Write, AllOf, FirstOf}

-- a crash may leave this value there, kept or unsynced
abbrev MayBe : View → Name → Value → Type 0
MayBe v n x = v.kept v.moment n x ⊎ (IsTrue (v.unsynced v.moment n) × IsSome x)

-- what a disk holds may be left
abbrev pub Law : View → Type 0
Law v = (n : Name) (x : Value) → Holds v.now n x → MayKeep v n x ⊎ (is_unsynced v n ≡ true)

by_test : (n m : Name) (P : Value → Type 0) (x y : Value) (b : Bool) → bytes_eq n m ≡ b → (n ≡ m → P x) → (m ≢ n → P y) → P (if b then x else y)
by_test n m P x y true e same other = same ((bytes_eq-Decides n m).0 e)
by_test n m P x y false e same other = other (λ (p : m ≡ n). let t : bytes_eq n m ≡ true = (bytes_eq-Decides n m).1 (sym p) in let u : ◌≡◌ {A = Bool} false true = sym e ∙ t in cc)

-- what holds at a name of a content with another value at one
pub by_name : (n m : Name) (P : Value → Type 0) (x y : Value) → (n ≡ m → P x) → (m ≢ n → P y) → P (if bytes_eq n m then x else y)
by_name n m P x y same other = by_test n m P x y (bytes_eq n m) refl same other

pub put_other : (name : Name) (v : Value) (f : Content) (q : Name) → q ≢ name → put name v f q ≡ f q
put_other name v f q apart = let e : ◌≡◌ {A = Option Value} (Some (put name v f q)) (Some (f q)) = same_put name v (Some f) q apart in cc

pub put_same : (name : Name) (v : Value) (f : Content) → put name v f name ≡ v
put_same name v f = grind (arith, common_steps, bytes_eq-Decides name name)

put_image : (v : View) (n : Name) (x : Value) (g : Content) → MayBe v n x → ((m : Name) → m ≢ n → MayBe v m (g m)) → IsImage v v.moment (put n x g)
put_image v n x g here others m = by_name n m (λ (y : Value). MayBe v m y) x (g m) (λ e. subst (λ (k : Name). MayBe v k x) e here) (others m)

-- some value may be left at each name
pick : (v : View) (f : Content) → v.now ≡ Some f → Law v → (n : Name) → (x : Value) × MayBe v n x
pick v f is law n =
    let holds : Holds v.now n (f n) = subst (λ (o : Option Content). Holds o n (f n)) (sym is) refl in
    ⊎_elim (λ k. (f n, inl k)) (λ l. (Some [], inr (l, refl))) (law n (f n) holds)

pub apart_from : (temp : Name) → IsTemporary temp → (n : Name) → ¬ IsTemporary n → n ≢ temp
apart_from temp is_temp n apart e = apart (subst (λ (k : Name). IsTemporary k) (sym e) is_temp)

module _ (temp name : Name) (bytes : List ℕ) where
  -- what a write of the bytes may add and leave unsynced on its way
  abbrev pub Added : Name → Value → Type 0
  Added n x = ((n ≡ name) × (x ≡ Some bytes)) ⊎ (n ≡ temp)

  abbrev pub Unsynced : Name → Type 0
  Unsynced n = n ≡ temp

  abbrev writes : List Write
  writes = (name, bytes) ∷ []

  module _ (a b : View) (is_temp : IsTemporary temp) (lasting : ¬ IsTemporary name) (law : Law a) (goes : GrowsBy Added Unsynced a b) (synced : is_unsynced a name ≡ false) where
    not_temp : (n : Name) → ¬ IsTemporary n → n ≢ temp
    not_temp = apart_from temp is_temp

    pub stays_synced : (t : ℕ) (n : Name) → a.moment ≤ t → t ≤ b.moment → ¬ IsTemporary n → is_unsynced a n ≡ false → b.unsynced t n ≡ false
    stays_synced t n lo hi apart was = cases (b.unsynced t n) refl
      where
        cases : (l : Bool) → b.unsynced t n ≡ l → b.unsynced t n ≡ false
        cases false e = e
        cases true e = absurd (⊎_elim
            (λ (o : a.unsynced a.moment n ≡ true). let u : ◌≡◌ {A = Bool} false true = sym was ∙ o in cc)
            (λ (p : n ≡ temp). not_temp n apart p)
            (goes.unsyncs t n lo hi e))

    -- at a name other than the two nothing new may be left
    rests : (t : ℕ) (g : Content) (n : Name) → a.moment ≤ t → t ≤ b.moment → IsImage b t g → n ≢ temp → n ≢ name → MayBe a n (g n)
    rests t g n lo hi image off_temp off_name = ⊎_elim
        (λ k. ⊎_elim inl (λ (x : Added n (g n)). absurd (⊎_elim (λ (y : (n ≡ name) × (g n ≡ Some bytes)). off_name y.0) off_temp x)) (goes.grows t n (g n) lo hi k))
        (λ (l : IsTrue (b.unsynced t n) × IsSome (g n)). ⊎_elim (λ o. inr (o, l.1)) (λ p. absurd (off_temp p)) (goes.unsyncs t n lo hi l.0))
        (image n)

    -- at the name the bytes may be new
    named : (t : ℕ) (g : Content) → a.moment ≤ t → t ≤ b.moment → IsImage b t g → MayBe a name (g name) ⊎ (g name ≡ Some bytes)
    named t g lo hi image = ⊎_elim
        (λ k. ⊎_elim (λ o. inl (inl o)) (λ (x : Added name (g name)). ⊎_elim (λ (y : (name ≡ name) × (g name ≡ Some bytes)). inr y.1) (λ (p : name ≡ temp). absurd (not_temp name lasting p)) x) (goes.grows t name (g name) lo hi k))
        (λ (l : IsTrue (b.unsynced t name) × IsSome (g name)). let u : ◌≡◌ {A = Bool} false true = sym (stays_synced t name lo hi lasting synced) ∙ l.0 in cc)
        (image name)

    old_image : (f : Content) → a.now ≡ Some f → (t : ℕ) (g : Content) → a.moment ≤ t → t ≤ b.moment → IsImage b t g → MayBe a name (g name) →
        (h : Content) × Leaves a a.moment h × Alike h g
    old_image f is t g lo hi image here =
        let x = pick a f is law temp in (
          put temp x.0 g,
          inr (put_image a temp x.0 g x.1 (λ m off. by_old m off)),
          record { same = λ n apart. sym (put_other temp x.0 g n (not_temp n apart)) },
        )
      where
        by_old : (m : Name) → m ≢ temp → MayBe a m (g m)
        by_old m off = go (bytes_eq name m) refl
          where
            go : (q : Bool) → bytes_eq name m ≡ q → MayBe a m (g m)
            go true e = subst (λ (k : Name). MayBe a k (g k)) ((bytes_eq-Decides name m).0 e) here
            go false e = rests t g m lo hi image off (λ (p : m ≡ name). let u : ◌≡◌ {A = Bool} false true = sym e ∙ (bytes_eq-Decides name m).1 (sym p) in cc)

    new_image : (f : Content) → a.now ≡ Some f → (t : ℕ) (g : Content) → a.moment ≤ t → t ≤ b.moment → IsImage b t g → g name ≡ Some bytes →
        (h : Content) × Leaves a a.moment h × Alike (put name (Some bytes) h) g
    new_image f is t g lo hi image new =
        let x = pick a f is law temp in
        let y = pick a f is law name in (
          put temp x.0 (put name y.0 g),
          inr (put_image a temp x.0 (put name y.0 g) x.1 (λ m off. by_name name m (λ (v : Value). MayBe a m v) y.0 (g m) (λ e. subst (λ (k : Name). MayBe a k y.0) e y.1) (rests t g m lo hi image off))),
          record {
            same = λ n apart. by_name name n (λ (v : Value). g n ≡ v) (Some bytes) (put temp x.0 (put name y.0 g) n)
                (λ e. sym (ap g e) ∙ new)
                (λ off. sym (put_other temp x.0 (put name y.0 g) n (not_temp n apart) ∙ put_other name y.0 g n off));
          },
        )

    pub crash_of : NowChanges (FirstOf writes) a.now b.now → Crash (FirstOf writes) a b
    crash_of nows = record {
      later = goes.later;
      past = goes.same;
      past_unsynced = goes.same_unsynced;
      known = nows.known;
      synced = stays_synced;
      comes = λ s t g lo hi leaves. from (a.now) refl s t g lo hi leaves;
    }
      where
        from : (o : Option Content) → a.now ≡ o → IsSome o → (t : ℕ) (g : Content) → a.moment ≤ t → t ≤ b.moment → Leaves b t g → (f : Content) × Leaves a a.moment f × FirstOf writes f g
        from None is s t g lo hi leaves = cc
        from (Some f) is s t g lo hi leaves = ⊎_elim
            (λ (now : b.now ≡ Some g). (f, inl is, nows.goes f g is now))
            (λ (image : IsImage b t g). ⊎_elim
            (λ here. let h = old_image f is t g lo hi image here in (h.0, h.1, inl h.2))
            (λ new. let h = new_image f is t g lo hi image new in (h.0, h.1, inr h.2))
            (named t g lo hi image))
            leaves

    pub ends_of : ((x : Value) → MayKeep b name x → x ≡ Some bytes) → NowChanges (AllOf writes) a.now b.now → Ends (AllOf writes) a b
    ends_of only nows = record { comes = λ s g leaves. from (a.now) refl s g leaves }
      where
        from : (o : Option Content) → a.now ≡ o → IsSome o → (g : Content) → Leaves b b.moment g → (f : Content) × Leaves a a.moment f × AllOf writes f g
        from None is s g leaves = cc
        from (Some f) is s g leaves = ⊎_elim
            (λ (now : b.now ≡ Some g). (f, inl is, nows.goes f g is now))
            (λ (image : IsImage b b.moment g). new_image f is b.moment g goes.later (omega arith) image (⊎_elim (only (g name))
            (λ (l : IsTrue (b.unsynced b.moment name) × IsSome (g name)). let u : ◌≡◌ {A = Bool} false true = sym (stays_synced b.moment name goes.later (omega arith) lasting synced) ∙ l.0 in cc)
            (image name)))
            leaves

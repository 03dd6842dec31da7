-- What a call that only removes names may leave.
use Rattle.std.proofs.Common.{◌≡◌, ◌⊎◌, ⊎_elim, inl, inr, ℕ, ◌≤◌, Bool, true, false, [], Option, Some, None, refl, ap, ◌∙◌, sym, subst, arith, IsTrue}
use Rattle.std.specs.Prelude.{IsSome, option_map}
use Rattle.base_devices.specs.Content.{Name, Value, Content, Holds, at}
use Rattle.base_devices.specs.Moments.{View, GrowsBy, IsImage, is_unsynced, MayKeep}
use Rattle.base_devices.specs.Crash.{IsTemporary, Crash, Ends, NowChanges}
use Rattle.base_devices.proofs.Nows.{known_as}
use Rattle.base_devices.proofs.Crashes.{unknown}
use Rattle.base_disk.proofs.Images.{Law}
use Rattle.base_disk.specs.Store.{ChangesOnly}
use Rattle.base_devices.specs.States.{DiskState, OnlyReads}
use Rattle.base_devices.proofs.Steps.{goes_on, goes_wide}
use Rattle.expire_make.specs.Losing.{Loses, LosesAll, Drops, TakesAway}

module _ (these : Name → Type 0) where
  module _ (a b : View) (goes : GrowsBy (λ n v. these n × (v ≡ None)) (λ _. ⊥) a b) (law : Law a) where
    abbrev MayBe : Name → Value → Type 0
    MayBe n x = a.kept a.moment n x ⊎ (IsTrue (a.unsynced a.moment n) × IsSome x)

    -- some value may be left at each name
    pick : (f : Content) → a.now ≡ Some f → (n : Name) → (x : Value) × MayBe n x
    pick f is n =
        let holds : Holds a.now n (f n) = subst (λ (o : Option Content). Holds o n (f n)) (sym is) refl in
        ⊎_elim (λ k. (f n, inl k)) (λ l. (Some [], inr (l, refl))) (law n (f n) holds)

    -- what was at a name before
    before : (f : Content) → a.now ≡ Some f → (t : ℕ) (g : Content) → a.moment ≤ t → t ≤ b.moment → IsImage b t g → (n : Name) → (x : Value) × MayBe n x × ((g n ≡ x) ⊎ (these n × (g n ≡ None)))
    before f is t g lo hi image n = ⊎_elim
        (λ k. ⊎_elim
        (λ old. (g n, inl old, inl refl))
        (λ (lost : these n × (g n ≡ None)). let x = pick f is n in (x.0, x.1, inr lost))
        (goes.grows t n (g n) lo hi k))
        (λ l. ⊎_elim (λ was. (g n, inr (was, l.1), inl refl)) (λ none. absurd none) (goes.unsyncs t n lo hi l.0))
        (image n)

    still_synced : (t : ℕ) (n : Name) → a.moment ≤ t → t ≤ b.moment → is_unsynced a n ≡ false → b.unsynced t n ≡ false
    still_synced t n lo hi synced = cases (b.unsynced t n) refl
      where
        cases : (l : Bool) → b.unsynced t n ≡ l → b.unsynced t n ≡ false
        cases false e = e
        cases true e = ⊎_elim (λ (was : a.unsynced a.moment n ≡ true). let u : ◌≡◌ {A = Bool} false true = sym synced ∙ was in cc) (λ none. absurd none) (goes.unsyncs t n lo hi e)

    pub lost_crash : NowChanges (Loses these) a.now b.now → Crash (Loses these) a b
    lost_crash nows = record {
      later = goes.later;
      past = goes.same;
      past_unsynced = goes.same_unsynced;
      known = nows.known;
      synced = λ t n lo hi apart synced. still_synced t n lo hi synced;
      comes = λ s t g lo hi leaves.
          let f = known_as a.now s in
          ⊎_elim
          (λ (now : b.now ≡ Some g). (f.0, inl f.1, nows.goes f.0 g f.1 now))
          (λ (image : IsImage b t g).
          let at = before f.0 f.1 t g lo hi image in
          let old : Content = λ n. (at n).0 in
          (old, inr (λ n. (at n).1), λ n. (at n).2))
          leaves;
    }

    -- where all are synced
    pub lost_ends : ((n : Name) → these n → is_unsynced a n ≡ false) → ((n : Name) (v : Value) → these n → MayKeep b n v → v ≡ None) → NowChanges (LosesAll these) a.now b.now → Ends (LosesAll these) a b
    lost_ends synced settled nows = record {
      comes = λ s g leaves.
          let f = known_as a.now s in
          ⊎_elim
          (λ (now : b.now ≡ Some g). (f.0, inl f.1, nows.goes f.0 g f.1 now))
          (λ (image : IsImage b b.moment g).
          let at = before f.0 f.1 b.moment g goes.later (omega arith) image in
          let old : Content = λ n. (at n).0 in
          (old, inr (λ n. (at n).1), record { loses = λ n. (at n).2; gone = λ n x. gone n x g image }))
          leaves;
    }
      where
        gone : (n : Name) → these n → (g : Content) → IsImage b b.moment g → g n ≡ None
        gone n x g image = ⊎_elim (λ k. settled n (g n) x k)
            (λ (l : IsTrue (b.unsynced b.moment n) × IsSome (g n)). let u : ◌≡◌ {A = Bool} false true = sym (still_synced b.moment n goes.later (omega arith) (synced n x)) ∙ l.0 in cc) (image n)

-- no call
pub no_time : (these : Name → Type 0) (a : View) → GrowsBy (λ n v. these n × (v ≡ None)) (λ _. ⊥) a a
no_time these a = record {
  later = omega arith;
  same = λ t n v le k. k;
  stays = λ t n v le k. k;
  same_unsynced = λ t n le. refl;
  grows = λ t n v lo hi k. inl (subst (λ (m : ℕ). a.kept m n v) (let e : t ≡ a.moment = omega (arith, lo, hi) in e) k);
  unsyncs = λ t n lo hi k. inl (subst (λ (m : ℕ). a.unsynced m n ≡ true) (let e : t ≡ a.moment = omega (arith, lo, hi) in e) k);
}

-- ---- what the disk holds

some_value : (v w : Value) → ◌≡◌ {A = Option Value} (Some v) (Some w) → v ≡ w
some_value v w e = cc

-- nothing, where that is known
abbrev absent_in : Option Content → Option Value
absent_in o = option_map (λ _. None) o

-- what is known stays known
same_known : (old new : Option Content) → (◌≡◌ {A = Option Value} (at [] new) (at [] old)) ⊎ (at [] new ≡ absent_in old) → absent_in new ≡ absent_in old
same_known None None e = refl
same_known None (Some g) (inl e) = let no : ◌≡◌ {A = Option Value} (Some (g [])) None = e in cc
same_known None (Some g) (inr e) = let no : ◌≡◌ {A = Option Value} (Some (g [])) None = e in cc
same_known (Some f) None (inl e) = let no : ◌≡◌ {A = Option Value} None (Some (f [])) = e in cc
same_known (Some f) None (inr e) = let no : ◌≡◌ {A = Option Value} None (Some None) = e in cc
same_known (Some f) (Some g) e = refl

module _ (these : Name → Type 0) where
  pub drops_now : (old new : Option Content) → Drops these old new → NowChanges (Loses these) old new
  drops_now None new drops = record { known = λ s. absurd (unknown None refl s); goes = λ f g is is'. let e : ◌≡◌ {A = Option Content} None (Some f) = is in cc }
  drops_now (Some f0) None drops = record { known = λ s. absurd (none (drops [])); goes = λ f g is is'. let e : ◌≡◌ {A = Option Content} None (Some g) = is' in cc }
    where
      none : (◌≡◌ {A = Option Value} None (Some (f0 []))) ⊎ (these [] × (◌≡◌ {A = Option Value} None (Some None))) → ⊥
      none (inl e) = let no : ◌≡◌ {A = Option Value} None (Some (f0 [])) = e in cc
      none (inr x) = let no : ◌≡◌ {A = Option Value} None (Some None) = x.1 in cc
  drops_now (Some f0) (Some g0) drops = record {
    known = λ s. refl;
    goes = λ f g is is'.
        let ef : ◌≡◌ {A = Option Content} (Some f0) (Some f) = is in
        let eg : ◌≡◌ {A = Option Content} (Some g0) (Some g) = is' in
        let same_f : f0 ≡ f = cc in
        let same_g : g0 ≡ g = cc in
        let P : Content → Content → Type 0 = λ x y. Loses these x y in
        subst (λ (x : Content). P x g) same_f (subst (λ (y : Content). P f0 y) same_g (λ n. ⊎_elim (λ e. inl (some_value (g0 n) (f0 n) e)) (λ (x : these n × (at n (Some g0) ≡ Some None)). inr (x.0, some_value (g0 n) None x.1)) (drops n)));
  }

  drops_on : (a b c : Option Content) → Drops these a b → Drops these b c → Drops these a c
  drops_on a b c p q n = ⊎_elim
      (λ (e : at n c ≡ at n b). ⊎_elim (λ (d : at n b ≡ at n a). inl (e ∙ d)) (λ (d : these n × (at n b ≡ option_map (λ _. None) a)). inr (d.0, e ∙ d.1)) (p n))
      (λ (x : these n × (at n c ≡ option_map (λ _. None) b)). inr (x.0, x.1 ∙ same_known a b (⊎_elim (λ e. inl e) (λ y. inr y.1) (p []))))
      (q n)

  -- ---- calls

  abbrev Takes : DiskState → DiskState → Type 0
  Takes a b = TakesAway these a b

  pub takes_none : (a : DiskState) → TakesAway these a a
  takes_none a = record { works = record { time = no_time these a.view; opened = refl; proper = refl; later = omega arith }; now = λ n. inl refl }

  pub takes_looks : (a b : DiskState) → OnlyReads a b → TakesAway these a b
  takes_looks a b looks = record {
    works = record {
      time = goes_wide (λ _ _. ⊥) (λ n v. these n × (v ≡ None)) (λ _. ⊥) (λ _. ⊥) a.view b.view (λ n v h. absurd h) (λ n h. h) looks.time;
      opened = looks.opened;
      proper = looks.proper;
      later = looks.later;
    };
    now = λ n. inl (ap (at n) looks.now);
  }

  pub takes_on : (a b c : DiskState) → TakesAway these a b → TakesAway these b c → TakesAway these a c
  takes_on a b c p q = record {
    works = record {
      time = goes_on (λ n v. these n × (v ≡ None)) (λ _. ⊥) a.view b.view c.view p.works.time q.works.time;
      opened = q.works.opened ∙ p.works.opened;
      proper = q.works.proper ∙ p.works.proper;
      later = omega (arith, p.works.later, q.works.later);
    };
    now = drops_on a.view.now b.view.now c.view.now p.now q.now;
  }

  pub takes_goes : (a b : DiskState) → TakesAway these a b → NowChanges (Loses these) a.view.now b.view.now
  takes_goes a b p = drops_now a.view.now b.view.now p.now

  pub takes_crash : (a b : DiskState) → Law a.view → TakesAway these a b → Crash (Loses these) a.view b.view
  takes_crash a b law p = lost_crash these a.view b.view p.works.time law (takes_goes a b p)

  pub takes_only : (a b : DiskState) → TakesAway these a b → ChangesOnly these a.view b.view
  takes_only a b p = record {
    now = λ n off. ⊎_elim (λ e. e) (λ x. absurd (off x.0)) (p.now n);
    time = goes_wide (λ n v. these n × (v ≡ None)) (λ n _. these n) (λ _. ⊥) (λ n. these n × IsTemporary n) a.view b.view (λ n v h. h.0) (λ n h. absurd h) p.works.time;
  }

-- fewer names are some of more
pub takes_wide : (these those : Name → Type 0) (a b : DiskState) → ((n : Name) → these n → those n) → TakesAway these a b → TakesAway those a b
takes_wide these those a b wider p = record {
  works = record {
    time = goes_wide (λ n v. these n × (v ≡ None)) (λ n v. those n × (v ≡ None)) (λ _. ⊥) (λ _. ⊥) a.view b.view (λ n v h. (wider n h.0, h.1)) (λ n h. h) p.works.time;
    opened = p.works.opened;
    proper = p.works.proper;
    later = p.works.later;
  };
  now = λ n. ⊎_elim (λ e. inl e) (λ x. inr (wider n x.0, x.1)) (p.now n);
}

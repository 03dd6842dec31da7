-- What the calls of a backup's keeper leave on its disk, one after another. Own.
use Rattle.std.proofs.Common.{◌≡◌, ◌≤◌, ◌⊎◌, ℕ, Bool, true, false, refl, sym, ◌∙◌, ap, subst, arith, inl, inr, ⊎_elim}
use Rattle.base_devices.specs.Content.{Name, Value, at, SameBut}
use Rattle.base_devices.specs.Moments.{View, GrowsBy}
use Rattle.base_devices.specs.States.{DiskState, CallsProperly}
use Rattle.base_devices.specs.Cause.{Rises}
use Rattle.base_devices.proofs.Steps.{goes_on, goes_wide}

-- only own names changed, and only these became unsynced or may be left with more
pub record Touches (own : Name → Bool) (old new : View) : Type 0 where
  pub now : (q : Name) → own q ≡ false → at q new.now ≡ at q old.now
  pub time : GrowsBy (λ n _. own n ≡ true) (λ n. own n ≡ true) old new

-- Only own names were touched. Where the keeper's count of faults isn't as before, the disk's rose.
pub record Later (own : Name → Bool) (faults faults2 : ℕ) (old new : DiskState) : Type 0 where
  pub touches : Touches own old.view new.view
  pub frame : CallsProperly old new
  pub counts : (faults2 ≡ faults) ⊎ Rises old.faults new.faults

-- ---- they hold of no call, and of two

-- what holds where nothing is done, and where more is
pub goes_same : (A : Name → Value → Type 0) (L : Name → Type 0) (a : View) → GrowsBy A L a a
goes_same A L a = record {
  later = omega arith;
  same = λ t n v le h. h;
  stays = λ t n v le h. h;
  same_unsynced = λ t n le. refl;
  grows = λ t n v lo hi h. inl (let e : t ≡ a.moment = omega arith in subst (λ (x : ℕ). a.kept x n v) e h);
  unsyncs = λ t n lo hi h. inl (let e : t ≡ a.moment = omega arith in subst (λ (x : ℕ). a.unsynced x n ≡ true) e h);
}

pub touches_same : (own : Name → Bool) (a : View) → Touches own a a
touches_same own a = record { now = λ q h. refl; time = goes_same (λ n _. own n ≡ true) (λ n. own n ≡ true) a }

pub touches_on : (own : Name → Bool) (a b c : View) → Touches own a b → Touches own b c → Touches own a c
touches_on own a b c p q = record {
  now = λ n no. q.now n no ∙ p.now n no;
  time = goes_on (λ n _. own n ≡ true) (λ n. own n ≡ true) a b c p.time q.time;
}

-- a call at one own name touches own names alone
pub touches_one : (own : Name → Bool) (name : Name) (a b : View) → own name ≡ true → SameBut name a.now b.now
    → GrowsBy (λ n _. n ≡ name) (λ n. n ≡ name) a b → Touches own a b
touches_one own name a b is others time = record {
  now = λ q no. others q (λ (e : q ≡ name). let both : ◌≡◌ {A = Bool} true false = sym is ∙ ap own (sym e) ∙ no in cc);
  time = goes_wide (λ n _. n ≡ name) (λ n _. own n ≡ true) (λ n. n ≡ name) (λ n. own n ≡ true) a b
      (λ n v e. ap own e ∙ is) (λ n e. ap own e ∙ is) time;
}

rises_on : (a b c : ℕ) → a ≤ b → Rises b c → Rises a c
rises_on a b c le rises = omega (arith, le, rises)

rises_before : (a b c : ℕ) → Rises a b → b ≤ c → Rises a c
rises_before a b c rises le = omega (arith, le, rises)

pub later_same : (own : Name → Bool) (faults : ℕ) (a : DiskState) → Later own faults faults a a
later_same own faults a = record {
  touches = touches_same own a.view;
  frame = record { opened = refl; proper = refl; later = omega arith };
  counts = inl refl;
}

pub later_on : {own other : Name → Bool} {k0 k1 k2 : ℕ} {a b c : DiskState} → other ≡ own → Later own k0 k1 a b
    → Later other k1 k2 b c → Later own k0 k2 a c
later_on {own = own} {other = other} {k0 = k0} {k1 = k1} {k2 = k2} {a = a} {b = b} {c = c} same p q = record {
  touches = touches_on own a.view b.view c.view p.touches
      (subst (λ (o : Name → Bool). Touches o b.view c.view) same q.touches);
  frame = record {
    opened = q.frame.opened ∙ p.frame.opened;
    proper = q.frame.proper ∙ p.frame.proper;
    later = omega (arith, p.frame.later, q.frame.later);
  };
  counts = ⊎_elim
      (λ (x : k1 ≡ k0). ⊎_elim (λ (y : k2 ≡ k1). inl (y ∙ x))
      (λ (y : Rises b.faults c.faults). inr (rises_on a.faults b.faults c.faults p.frame.later y)) q.counts)
      (λ (x : Rises a.faults b.faults). inr (rises_before a.faults b.faults c.faults x q.frame.later))
      p.counts;
}

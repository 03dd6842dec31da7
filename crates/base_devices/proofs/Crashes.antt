-- Calls one after another, and what they may leave.
use Rattle.std.specs.Prelude.{◌≡◌, ◌⊎◌, ℕ, Bool, true, false, List, [], ◌∷◌, ◌++◌, Option, Some, None, IsSome, refl, bytes_eq, if◌then◌else◌}
use Rattle.std.proofs.Common.{sym, ◌∙◌, ap, subst, inl, inr, arith, ⊎_elim, ◌≤◌}
use Rattle.base_devices.specs.Content.{Name, Value, Content, put}
use Rattle.base_devices.specs.Moments.{View, IsImage, LeavesNoMore}
use Rattle.base_devices.specs.Crash.{Alike, Leaves, Crash, Ends, Write, AllOf, FirstOf, SomeOf}

abbrev pub Step : Type 1
Step = Content → Content → Type 0

either : (t b : ℕ) → (t ≤ b) ⊎ (b ≤ t)
either t b = grind arith

-- what a later moment leaves of an earlier one, except for what the disk holds now
past_image : (S : Step) (b c : View) (t : ℕ) (g : Content) → Crash S b c → t ≤ b.moment → IsImage c t g → IsImage b t g
past_image S b c t g q le image n = ⊎_elim (λ k. inl (q.past t n (g n) le k)) (λ h. inr (sym (q.past_unsynced t n le) ∙ h.0, h.1)) (image n)

-- from one call's Step, and from another's after it, to that of both
pub crash_on : (S T U W : Step) (a b c : View) → Crash S a b → Ends W a b → Crash T b c → ((f g : Content) → S f g → U f g) → ((f g h : Content) → W f g → T g h → U f h) → Crash U a c
crash_on S T U W a b c p e q first both = record {
  later = omega (arith, p.later, q.later);
  past = λ t n v le h. p.past t n v le (q.past t n v (omega (arith, le, p.later)) h);
  past_unsynced = λ t n le. q.past_unsynced t n (omega (arith, le, p.later)) ∙ p.past_unsynced t n le;
  known = λ s. q.known (p.known s);
  synced = λ t n lo hi apart h. ⊎_elim
      (λ (le : t ≤ b.moment). q.past_unsynced t n le ∙ p.synced t n lo le apart h)
      (λ (ge : b.moment ≤ t). q.synced t n ge hi apart (p.synced b.moment n p.later (omega arith) apart h))
      (either t b.moment);
  comes = λ s t g lo hi leaves. ⊎_elim (λ now. following s c.moment g q.later (omega arith) (inl now))
      (λ image. ⊎_elim
      (λ (le : t ≤ b.moment). let x = p.comes s t g lo le (inr (past_image T b c t g q le image)) in (x.0, x.1, first x.0 g x.2))
      (λ (ge : b.moment ≤ t). following s t g ge hi (inr image))
      (either t b.moment)) leaves;
}
  where
    following : IsSome a.now → (t : ℕ) (h : Content) → b.moment ≤ t → t ≤ c.moment → Leaves c t h → (f : Content) × Leaves a a.moment f × U f h
    following s t h lo hi leaves =
        let x = q.comes (p.known s) t h lo hi leaves in
        let y = e.comes s x.0 x.1 in (y.0, y.1, both y.0 x.0 h y.2 x.2)

pub ends_on : (W X U : Step) (S T : Step) (a b c : View) → Crash S a b → Ends W a b → Ends X b c → ((f g h : Content) → W f g → X g h → U f h) → Ends U a c
ends_on W X U S T a b c p e q both = record {
  comes = λ s h leaves.
      let x = q.comes (p.known s) h leaves in
      let y = e.comes s x.0 x.1 in (y.0, y.1, both y.0 x.0 h y.2 x.2);
}

pub alike_refl : (f : Content) → Alike f f
alike_refl f = record { same = λ n apart. refl }

pub alike_on : (f g h : Content) → Alike f g → Alike g h → Alike f h
alike_on f g h p q = record { same = λ n apart. q.same n apart ∙ p.same n apart }

put_alike : (name : Name) (v : Value) (f g : Content) → Alike f g → Alike (put name v f) (put name v g)
put_alike name v f g p = record { same = λ n apart. ap (λ (x : Value). if bytes_eq name n then v else x) (p.same n apart) }

all_alike : (ws : List Write) (f g h : Content) → Alike f g → AllOf ws g h → AllOf ws f h
all_alike [] f g h p q = alike_on f g h p q
all_alike (w ∷ ws) f g h p q = all_alike ws _ _ h (put_alike w.0 (Some w.1) f g p) q

first_alike : (ws : List Write) (f g h : Content) → Alike f g → FirstOf ws g h → FirstOf ws f h
first_alike [] f g h p q = alike_on f g h p q
first_alike (w ∷ ws) f g h p q = ⊎_elim (λ x. inl (alike_on f g h p x)) (λ x. inr (first_alike ws _ _ h (put_alike w.0 (Some w.1) f g p) x)) q

pub all_all : (vs ws : List Write) (f g h : Content) → AllOf vs f g → AllOf ws g h → AllOf (vs ++ ws) f h
all_all [] ws f g h p q = all_alike ws f g h p q
all_all (v ∷ vs) ws f g h p q = all_all vs ws _ g h p q

pub all_first : (vs ws : List Write) (f g h : Content) → AllOf vs f g → FirstOf ws g h → FirstOf (vs ++ ws) f h
all_first [] ws f g h p q = first_alike ws f g h p q
all_first (v ∷ vs) ws f g h p q = inr (all_first vs ws _ g h p q)

pub first_first : (vs ws : List Write) (f g : Content) → FirstOf vs f g → FirstOf (vs ++ ws) f g
first_first [] [] f g p = p
first_first [] (w ∷ ws) f g p = inl p
first_first (v ∷ vs) ws f g p = ⊎_elim inl (λ x. inr (first_first vs ws _ g x)) p

-- some writes, then some more
pub writes_on : (vs ws : List Write) (a b c : View) → Crash (FirstOf vs) a b → Ends (AllOf vs) a b → Crash (FirstOf ws) b c → Crash (FirstOf (vs ++ ws)) a c
writes_on vs ws a b c p e q = crash_on (FirstOf vs) (FirstOf ws) (FirstOf (vs ++ ws)) (AllOf vs) a b c p e q (first_first vs ws) (all_first vs ws)

pub writes_end : (vs ws : List Write) (a b c : View) → Crash (FirstOf vs) a b → Ends (AllOf vs) a b → Ends (AllOf ws) b c → Ends (AllOf (vs ++ ws)) a c
writes_end vs ws a b c p e q = ends_on (AllOf vs) (AllOf ws) (AllOf (vs ++ ws)) (FirstOf vs) (FirstOf ws) a b c p e q (all_all vs ws)

-- fewer writes than might have been
pub writes_part : (vs ws : List Write) (a b : View) → Crash (FirstOf vs) a b → Crash (FirstOf (vs ++ ws)) a b
writes_part vs ws a b p = record {
  later = p.later;
  past = p.past;
  past_unsynced = p.past_unsynced;
  known = p.known;
  synced = p.synced;
  comes = λ s t g lo hi leaves. let x = p.comes s t g lo hi leaves in (x.0, x.1, first_first vs ws x.0 g x.2);
}

-- nothing was written
pub first_none : (ws : List Write) (f : Content) → FirstOf ws f f
first_none [] f = alike_refl f
first_none (w ∷ ws) f = inl (alike_refl f)

pub crash_none : (ws : List Write) (a : View) → Crash (FirstOf ws) a a
crash_none ws a = record {
  later = omega arith;
  past = λ t n v le h. h;
  past_unsynced = λ t n le. refl;
  known = λ s. s;
  synced = λ t n lo hi apart h. subst (λ (m : ℕ). a.unsynced m n ≡ false) (let e : a.moment ≡ t = omega (arith, lo, hi) in e) h;
  comes = λ s t g lo hi leaves. (g, subst (λ (m : ℕ). Leaves a m g) (let e : t ≡ a.moment = omega (arith, lo, hi) in e) leaves, first_none ws g);
}

-- the first of the writes are some of them
pub first_some : (ws : List Write) (f g : Content) → FirstOf ws f g → SomeOf ws f g
first_some [] f g p = p
first_some (w ∷ ws) f g p = ⊎_elim (λ a. inl (first_some ws f g (alike_first ws f g a))) (λ q. inr (first_some ws _ g q)) p
  where
    alike_first : (ws : List Write) (f g : Content) → Alike f g → FirstOf ws f g
    alike_first [] f g a = a
    alike_first (w ∷ ws) f g a = inl a

-- ---- some of the writes

some_alike : (ws : List Write) (f g h : Content) → Alike f g → SomeOf ws g h → SomeOf ws f h
some_alike [] f g h p q = alike_on f g h p q
some_alike (w ∷ ws) f g h p q = ⊎_elim (λ x. inl (some_alike ws f g h p x)) (λ x. inr (some_alike ws _ _ h (put_alike w.0 (Some w.1) f g p) x)) q

pub some_none : (ws : List Write) (f : Content) → SomeOf ws f f
some_none [] f = alike_refl f
some_none (w ∷ ws) f = inl (some_none ws f)

pub some_some : (vs ws : List Write) (f g h : Content) → SomeOf vs f g → SomeOf ws g h → SomeOf (vs ++ ws) f h
some_some [] ws f g h p q = some_alike ws f g h p q
some_some (v ∷ vs) ws f g h p q = ⊎_elim (λ x. inl (some_some vs ws f g h x q)) (λ x. inr (some_some vs ws _ g h x q)) p

pub some_part : (vs ws : List Write) (f g : Content) → SomeOf vs f g → SomeOf (vs ++ ws) f g
some_part vs ws f g p = some_some vs ws f g g p (some_none ws g)

-- ---- calls

-- what may be left at the end is among what may be left on the way
pub crash_ends : (S : Step) (a b : View) → Crash S a b → Ends S a b
crash_ends S a b p = record { comes = λ s g leaves. p.comes s b.moment g p.later (omega arith) leaves }

-- some writes, then some more
pub somes_on : (vs ws : List Write) (a b c : View) → Crash (SomeOf vs) a b → Crash (SomeOf ws) b c → Crash (SomeOf (vs ++ ws)) a c
somes_on vs ws a b c p q = crash_on (SomeOf vs) (SomeOf ws) (SomeOf (vs ++ ws)) (SomeOf vs) a b c p (crash_ends (SomeOf vs) a b p) q (some_part vs ws) (some_some vs ws)

-- the same call, by a wider Step
pub crash_as : (S T : Step) (a b : View) → ((f g : Content) → S f g → T f g) → Crash S a b → Crash T a b
crash_as S T a b wider p = record {
  later = p.later;
  past = p.past;
  past_unsynced = p.past_unsynced;
  known = p.known;
  synced = p.synced;
  comes = λ s t g lo hi leaves. let x = p.comes s t g lo hi leaves in (x.0, x.1, wider x.0 g x.2);
}

pub unknown : (o : Option Content) → o ≡ None → IsSome o → ⊥
unknown None e some = cc
unknown (Some f) e some = cc

-- where it isn't known what the disk holds, any Step does
pub crash_unknown : (S T : Step) (a b : View) → a.now ≡ None → Crash S a b → Crash T a b
crash_unknown S T a b none p = record {
  later = p.later;
  past = p.past;
  past_unsynced = p.past_unsynced;
  known = p.known;
  synced = p.synced;
  comes = λ s t g lo hi leaves. absurd (unknown a.now none s);
}

by_false : (b : Bool) → (b ≡ true → ⊥) → b ≡ false
by_false true h = absurd (h refl)
by_false false h = refl

-- a call that only keeps what is there
pub crash_rests : (S : Step) (a b : View) → ((f : Content) → S f f) → LeavesNoMore a b → b.now ≡ a.now → Crash S a b
crash_rests S a b same rests now = record {
  later = rests.later;
  past = rests.same;
  past_unsynced = rests.same_unsynced;
  known = λ s. subst (λ (o : Option Content). IsSome o) (sym now) s;
  synced = λ t n lo hi apart h. by_false (b.unsynced t n) (λ unsynced. ⊎_elim (λ (was : a.unsynced a.moment n ≡ true). let e : ◌≡◌ {A = Bool} true false = sym was ∙ h in cc) (λ (none : ⊥). none) (rests.unsyncs t n lo hi unsynced));
  comes = λ s t g lo hi leaves. (
    g,
    ⊎_elim
        (λ (is : b.now ≡ Some g). inl (sym now ∙ is))
        (λ (image : IsImage b t g). inr (λ n. ⊎_elim
        (λ (k : b.kept t n (g n)). ⊎_elim (λ (old : a.kept a.moment n (g n)). inl old) (λ (none : ⊥). absurd none) (rests.grows t n (g n) lo hi k))
        (λ h. ⊎_elim (λ (old : a.unsynced a.moment n ≡ true). inr (old, h.1)) (λ (none : ⊥). absurd none) (rests.unsyncs t n lo hi h.0))
        (image n)))
        leaves,
    same g,
  );
}

-- Calls that change only some names.
use Rattle.std.proofs.Common.{◌≡◌, ◌⊎◌, ⊎_elim, inl, inr, ℕ, true, refl, ap, subst, ◌∙◌, arith}
use Rattle.base_devices.specs.Content.{Name, at}
use Rattle.base_devices.specs.Moments.{View, LeavesNoMore}
use Rattle.base_devices.specs.Crash.{IsTemporary}
use Rattle.base_devices.proofs.Steps.{goes_on, goes_wide}
use Rattle.base_disk.specs.Store.{ChangesOnly}

-- a call that only reads
pub only_rests : (these : Name → Type 0) (a b : View) → LeavesNoMore a b → b.now ≡ a.now → ChangesOnly these a b
only_rests these a b rests same = record {
  now = λ n off. ap (at n) same;
  time = goes_wide (λ _ _. ⊥) (λ n _. these n) (λ _. ⊥) (λ n. these n × IsTemporary n) a b (λ n v h. absurd h) (λ n h. absurd h) rests;
}

-- no call
pub only_none : (these : Name → Type 0) (a : View) → ChangesOnly these a a
only_none these a = record {
  now = λ n off. refl;
  time = record {
    later = omega arith;
    same = λ t n v le k. k;
    stays = λ t n v le k. k;
    same_unsynced = λ t n le. refl;
    grows = λ t n v lo hi k. inl (let e : t ≡ a.moment = omega arith in subst (λ (m : ℕ). a.kept m n v) e k);
    unsyncs = λ t n lo hi l. inl (let e : t ≡ a.moment = omega arith in subst (λ (m : ℕ). a.unsynced m n ≡ true) e l);
  };
}

-- one call after another
pub only_on : (these : Name → Type 0) (a b c : View) → ChangesOnly these a b → ChangesOnly these b c → ChangesOnly these a c
only_on these a b c p q = record {
  now = λ n off. q.now n off ∙ p.now n off;
  time = goes_on (λ n _. these n) (λ n. these n × IsTemporary n) a b c p.time q.time;
}

-- a call that changes fewer
pub only_wide : (these those : Name → Type 0) (a b : View) → ((n : Name) → these n → those n) → ChangesOnly these a b → ChangesOnly those a b
only_wide these those a b wider p = record {
  now = λ n off. p.now n (λ h. off (wider n h));
  time = goes_wide (λ n _. these n) (λ n _. those n) (λ n. these n × IsTemporary n) (λ n. those n × IsTemporary n) a b (λ n v h. wider n h) (λ n h. (wider n h.0, h.1)) p.time;
}

-- one name after another, each by way of the same temporary one
module _ (temp main copy : Name) where
  abbrev Three : Name → Type 0
  Three n = (n ≡ temp) ⊎ ((n ≡ main) ⊎ (n ≡ copy))

  pub only_first : (a b : View) → ChangesOnly (λ n. (n ≡ temp) ⊎ (n ≡ main)) a b → ChangesOnly (λ n. (n ≡ temp) ⊎ ((n ≡ main) ⊎ (n ≡ copy))) a b
  only_first a b p = only_wide (λ n. (n ≡ temp) ⊎ (n ≡ main)) Three a b (λ n h. ⊎_elim (λ (e : n ≡ temp). inl e) (λ (e : n ≡ main). inr (inl e)) h) p

  pub only_both : (a b c : View) → ChangesOnly (λ n. (n ≡ temp) ⊎ (n ≡ main)) a b → ChangesOnly (λ n. (n ≡ temp) ⊎ (n ≡ copy)) b c → ChangesOnly (λ n. (n ≡ temp) ⊎ ((n ≡ main) ⊎ (n ≡ copy))) a c
  only_both a b c p q = only_on Three a b c (only_first a b p)
      (only_wide (λ n. (n ≡ temp) ⊎ (n ≡ copy)) Three b c (λ n h. ⊎_elim (λ (e : n ≡ temp). inl e) (λ (e : n ≡ copy). inr (inr e)) h) q)

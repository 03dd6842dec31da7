-- A disk that is unchanged.
use Rattle.std.specs.Prelude.{◌≡◌, ℕ, true, refl}
use Rattle.std.proofs.Common.{inl, ◌∙◌, subst}
use Rattle.std.proofs.Math.Nat.{le_refl, le_antisymm}
use Rattle.base_devices.specs.Moments.{View, LeavesNoMore}
use Rattle.base_devices.proofs.Steps.{goes_on}

-- it holds what it held, and a crash may leave no more
pub record IsStill (old new : View) : Type 0 where
  pub now : new.now ≡ old.now
  pub time : LeavesNoMore old new

pub rests_none : (a : View) → LeavesNoMore a a
rests_none a = record {
  later = le_refl a.moment;
  same = λ t n v le h. h;
  stays = λ t n v le h. h;
  same_unsynced = λ t n le. refl;
  grows = λ t n v lo hi h. inl (subst (λ (m : ℕ). a.kept m n v) (le_antisymm hi lo) h);
  unsyncs = λ t n lo hi h. inl (subst (λ (m : ℕ). a.unsynced m n ≡ true) (le_antisymm hi lo) h);
}

pub still_self : (a : View) → IsStill a a
still_self a = record { now = refl; time = rests_none a }

pub still_on : (a b c : View) → IsStill a b → IsStill b c → IsStill a c
still_on a b c p q = record { now = q.now ∙ p.now; time = goes_on (λ _ _. ⊥) (λ _. ⊥) a b c p.time q.time }

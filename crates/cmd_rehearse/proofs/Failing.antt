-- Which objects failed, as counts of faults continue.
use Rattle.std.proofs.Common.{ℕ, ◌≡◌, ◌≤◌, Result, Err, arith, refl, sym, subst}
use Rattle.std.specs.Prelude.{IsErrOf}
use Rattle.base_devices.specs.Cause.{Rises, HasCause}
use Rattle.base_devices.specs.declared.device_error.DeviceError.{DeviceError}
use Rattle.base_devices.specs.declared.device_error.DeviceError.TheVariants as stops
use Rattle.cmd_types.specs.declared.stages.object.Object.{Object}
use Rattle.cmd_types.specs.declared.stages.object.Object.TheVariants as objects
use Rattle.cmd_types.specs.Halts.{HaltCause, Only, halt_of}
use Rattle.cmd_rehearse.specs.Causes.{Fails, FailsBoth}

rises_in : (a b c d : ℕ) → a ≤ b → c ≤ d → Rises b c → Rises a d
rises_in a b c d prefix back h = omega (arith, prefix, back, h)

-- counts that the disk, the data folder and the clock reached before and after it
pub record Within (a b c d t u v w x y z q : ℕ) : Type 0 where
  pub repo : a ≤ b
  pub repo_after : c ≤ d
  pub tree : t ≤ u
  pub tree_after : v ≤ w
  pub clock : x ≤ y
  pub clock_behind : z ≤ q

module _ (a b c d t u v w x y z q : ℕ) (n : Within a b c d t u v w x y z q) where
  pub fails_in : (o : Object) → Fails b c u v y z o → Fails a d t w x q o
  fails_in objects.Repo h = rises_in a b c d n.repo n.repo_after h
  fails_in objects.Spool h = absurd h
  fails_in objects.TheDataFolder h = rises_in t u v w n.tree n.tree_after h
  fails_in objects.Server h = absurd h
  fails_in objects.Others h = absurd h
  fails_in objects.Clock h = rises_in x y z q n.clock n.clock_behind h
  fails_in objects.Locks h = absurd h
  fails_in objects.Config h = absurd h
  fails_in objects.Output h = absurd h

  pub both_in : (o : Object) → FailsBoth b c u v o → Fails a d t w x q o
  both_in objects.Repo h = rises_in a b c d n.repo n.repo_after h
  both_in objects.Spool h = absurd h
  both_in objects.TheDataFolder h = rises_in t u v w n.tree n.tree_after h
  both_in objects.Server h = absurd h
  both_in objects.Others h = absurd h
  both_in objects.Clock h = absurd h
  both_in objects.Locks h = absurd h
  both_in objects.Config h = absurd h
  both_in objects.Output h = absurd h

  pub repo_in : (o : Object) → Only objects.Repo (Rises b c) o → Fails a d t w x q o
  repo_in o h = subst (λ (p : Object). Fails a d t w x q p) (sym h.0) (rises_in a b c d n.repo n.repo_after h.1)

  pub tree_in : (o : Object) → Only objects.TheDataFolder (Rises u v) o → Fails a d t w x q o
  tree_in o h = subst (λ (p : Object). Fails a d t w x q p) (sym h.0) (rises_in t u v w n.tree n.tree_after h.1)

-- of the repository alone
pub only_in : (a b c d : ℕ) → a ≤ b → c ≤ d → (o : Object) → Only objects.Repo (Rises b c) o → Only objects.Repo (Rises a d) o
only_in a b c d prefix back o h = (h.0, rises_in a b c d prefix back h.1)

-- of the repository and the data folder
module _ (a b c d t u v w : ℕ) (repo : a ≤ b) (repo_after : c ≤ d) (tree : t ≤ u) (tree_after : v ≤ w) where
  pub both_on : (o : Object) → FailsBoth b c u v o → FailsBoth a d t w o
  both_on objects.Repo h = rises_in a b c d repo repo_after h
  both_on objects.Spool h = absurd h
  both_on objects.TheDataFolder h = rises_in t u v w tree tree_after h
  both_on objects.Server h = absurd h
  both_on objects.Others h = absurd h
  both_on objects.Clock h = absurd h
  both_on objects.Locks h = absurd h
  both_on objects.Config h = absurd h
  both_on objects.Output h = absurd h

  pub repo_on : (o : Object) → Only objects.Repo (Rises b c) o → FailsBoth a d t w o
  repo_on o h = subst (λ (p : Object). FailsBoth a d t w p) (sym h.0) (rises_in a b c d repo repo_after h.1)

  pub tree_on : (o : Object) → Only objects.TheDataFolder (Rises u v) o → FailsBoth a d t w o
  tree_on o h = subst (λ (p : Object). FailsBoth a d t w p) (sym h.0) (rises_in t u v w tree tree_after h.1)

-- a call of the data folder was stopped
pub stop_fails : {T E : Type 0} (P : E → Type 0) (old new : ℕ) (result : Result T DeviceError) (stop : DeviceError) → result ≡ Err stop → HasCause old new result → HaltCause P (Only objects.TheDataFolder (Rises old new)) (halt_of objects.TheDataFolder stop)
stop_fails P old new result stops.Failed is cause = (refl, cause.failed (subst (λ (r : Result _ DeviceError). IsErrOf r stops.Failed) (sym is) refl))
stop_fails P old new result stops.NoMemory is cause = tt

-- The result of a backup, by its result.
use Rattle.std.proofs.Common.{◌≡◌, ℕ, false, List, Option, Result, Ok, Err, sym, subst, inl, inr}
use Rattle.base_devices.specs.Moments.{View}
use Rattle.base_devices.specs.Links.{LinkState}
use Rattle.repo_pair.specs.declared.fault.SaveFault.{SaveFault}
use Rattle.repo_pair.specs.declared.fault.SaveFault.TheVariants as saves
use Rattle.backup_make.specs.declared.draft.Draft.{Draft}
use Rattle.backup_make.specs.declared.fault.MakeFault.{MakeFault}
use Rattle.backup_make.specs.Faults.{fault_of_save}
use Rattle.backup_make.specs.Made.{LeavesList, MakesOf, MayBeListed, OutcomeOf, StopsBy}
use Rattle.backup_make.specs.Online.{Online}

-- a fault of saving comes late
of_saving : (s : SaveFault) → MayBeListed (fault_of_save s)
of_saving saves.Disk = tt
of_saving saves.NoMemory = tt

module _ (draft : Draft) (o : Option Online) (links : List LinkState) (a d : View) (r : Result (Unit {0}) MakeFault) (e : MakeFault) (is : r ≡ Err e) where
  -- a result with what is said of its stop
  abbrev Ended : (ℕ → Type 0) → Result (Unit {0}) MakeFault → Type 0
  Ended P x = (made : OutcomeOf x draft o links a d) × StopsBy P x draft o links a d made

  pub nothing_listed : (P : ℕ → Type 0) → LeavesList draft a d → (made : OutcomeOf r draft o links a d) × StopsBy P r draft o links a d made
  nothing_listed P stays = subst (Ended P) (sym is) (inl stays, tt)

  pub may_be_listed : (P : ℕ → Type 0) (s : SaveFault) → e ≡ fault_of_save s → MakesOf draft o links false a d → (made : OutcomeOf r draft o links a d) × StopsBy P r draft o links a d made
  may_be_listed P s of makes = subst (Ended P) (sym is) (inr (subst MayBeListed (sym of) (of_saving s), makes), tt)

-- it stopped in a second of another kind too
pub stops_as : (P Q : ℕ → Type 0) → ((n : ℕ) → P n → Q n) → (r : Result (Unit {0}) MakeFault) (draft : Draft) (o : Option Online) (links : List LinkState) (a d : View) (made : OutcomeOf r draft o links a d) → StopsBy P r draft o links a d made → StopsBy Q r draft o links a d made
stops_as P Q to (Ok u) draft o links a d made stops = to made.stop stops
stops_as P Q to (Err e) draft o links a d made stops = tt

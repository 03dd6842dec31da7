-- What a command did, whichever it is.
use Rattle.std.specs.Prelude.{◌≡◌, ◌⊎◌, ℕ, Bool, true, false, List, Option, Some, None, Result, IfOk, IfErr, OnOk, IfSome, IsSome, IsSomeAnd}
use Rattle.base_devices.specs.Content.{Content}
use Rattle.base_devices.specs.Moments.{View}
use Rattle.base_devices.specs.States.{IsOpened, OpensOnly, AllSynced}
use Rattle.base_devices.specs.DataFolder.{Nodes}
use Rattle.base_model.specs.Text.{Text}
use Rattle.base_model.specs.Steps.{Command}
use Rattle.base_model.specs.Walks.{IsSynced}
use Rattle.archive_store.specs.Still.{IsStill}
use Rattle.base_crash_lists.specs.Beside.{StaysBeside}
use Rattle.cmd_types.specs.declared.stages.object.Object.{Object}
use Rattle.cmd_types.specs.declared.stages.object.Object.TheVariants.{Output}
use Rattle.cmd_types.specs.declared.stages.outcome.Outcome.{Outcome}
use Rattle.cmd_types.specs.declared.stages.plan.Pairs.{Pairs}
use Rattle.cmd_types.specs.declared.stages.plan.Pairs.TheVariants.{HealArchive}
use Rattle.cmd_types.specs.declared.stages.plan.SyncScope.{SyncScope}
use Rattle.cmd_types.specs.declared.stages.plan.SyncScope.TheVariants.{Whole, Looked}
use Rattle.cmd_types.specs.Plans.{Heals, AreHealed, HealsToLast, TakesLocks}
use Rattle.cmd_types.specs.DisksEffect.{Reached, DisksEffect, Takes, On, OnNone, PairAlike}
use Rattle.cmd_types.specs.World.{World, Failed, AreLater}
use Rattle.cmd_setup.specs.Calls.{StaysSynced}
use Rattle.cmd_setup.specs.Stages.{StageCause}
use Rattle.cmd_setup.specs.Taking.{MayTake}
use Rattle.cmd_trait.specs.declared.fault.Fault.{Fault}
use Rattle.cmd_trait.specs.declared.fault.Fault.TheVariants.{Stage, Own, Failed as ObjectFailed, NoMemory}
use Rattle.cmd_trait.specs.KnownWorld.{KnownWorld, known_world}
use Rattle.cmd_trait.specs.Meaning.{Place, Meaning, Unless, TurnsKnown, disks_of}
use Rattle.cmd_trait.specs.Ends.{status, reached_of, ending_of, lines_of}
use Rattle.cmd_trait.specs.Output.{IsPrinted}

-- ---- what stays

-- a talk that a refusal ended was left as the command says
abbrev pub Closes : {F : Type 0} → Place → Meaning F → World → World → Fault F → Type 0
Closes p m before after (Own fault) = m.closes p (known_world before) (known_world after) (Failed before after) fault
Closes p m before after other = Unit {0}

-- What a command leaves unchanged. Where what others did meanwhile is known, it keeps to its stanza, and to what it may
-- change in the repository. It keeps to what it may change in the data folder, and to what other processes may be at.
-- Refused before its first step it leaves what it then leaves. It leaves the server, the workers and the clock unchanged
-- where it doesn't use them.
pub record Spares {F : Type 0} (p : Place) (m : Meaning F) (before after : World) (result : Result Outcome (Fault F)) :
    Type 0 where
  pub beside : TurnsKnown p m (known_world after) → StaysBeside p.stanza before.repo.view after.repo.view
  pub spool : TurnsKnown p m (known_world after) → StaysBeside p.stanza before.spool.view after.spool.view
  pub repository : TurnsKnown p m (known_world after)
      → m.repo_effect p before.clock.least before.repo.view after.repo.view
  pub folder : m.folder_effect p (known_world before) after.tree.nodes
  pub others : m.others_effect p before.others after.others
  pub turned : OnNone (reached_of m (ending_of result))
      (m.turned p (known_world before) (known_world after) (status m (ending_of result)))
  pub server : Unless m.uses.server (after.server ≡ before.server)
  pub workers : Unless m.uses.workers (after.links ≡ before.links)
  pub clock : Unless m.uses.clock (after.clock ≡ before.clock)
  pub closed : IfErr result (Closes p m before after)

-- Nothing was done: the objects but the configuration and the output are unchanged.
pub record IsIdle (before after : World) : Type 0 where
  pub repo : IsStill before.repo.view after.repo.view
  pub opened : after.repo.opened ≡ before.repo.opened
  pub spool_opened : after.spool.opened ≡ before.spool.opened
  pub spool : IsStill before.spool.view after.spool.view
  pub tree : after.tree ≡ before.tree
  pub server : after.server ≡ before.server
  pub others : after.others ≡ before.others
  pub clock : after.clock ≡ before.clock
  pub locks : after.locks ≡ before.locks
  pub links : after.links ≡ before.links

-- the places that are open are those that were
pub record SamePlaces (before after : World) : Type 0 where
  pub spool : after.spool.opened ≡ before.spool.opened
  pub repo : after.repo.opened ≡ before.repo.opened
  pub tree : after.tree.opened ≡ before.tree.opened

-- ---- a command's own part

-- why it ends without its result
abbrev pub OwnCause : {F : Type 0} → Place → Meaning F → World → World → Fault F → Type 0
OwnCause p m before after (Stage fault) = ⊥
OwnCause p m before after (Own fault) = m.cause p (known_world before) (known_world after) (Failed before after) fault
OwnCause p m before after (ObjectFailed object) = Failed before after object
OwnCause p m before after NoMemory = Unit {0}

-- the pairs that the command heals agree still, and no crash removes a member of them
pub record StaysHealed {F : Type 0} (p : Place) (m : Meaning F) (before after : World) : Type 0 where
  pub agree : IsSome before.repo.view.now → IfSome before.repo.view.now (AreHealed m.plan.pairs p.stanza)
      → IfSome after.repo.view.now (AreHealed m.plan.pairs p.stanza)
  pub lasts : IsSynced p.stanza before.repo.view → IsSome before.repo.view.now
      → HealsToLast m.plan.pairs p.stanza before.repo.view
      → HealsToLast m.plan.pairs p.stanza after.repo.view

-- this holds where what is looked at alone was synced, or where the archive pair was healed
abbrev pub OnLasting : SyncScope → Pairs → Type 0 → Type 0
OnLasting Looked pairs P = P
OnLasting Whole HealArchive P = P
OnLasting Whole other P = Unit {0}

-- the answer holds of all that a crash leaves, where no name that is looked at was unsynced, and all that a crash left
-- had the archive pair that the disk had
abbrev pub OwnLasts : {F : Type 0} → Place → Meaning F → World → World → Outcome → Type 0
OwnLasts p m before after outcome = IsSynced p.stanza before.repo.view → IsSome before.repo.view.now
    → PairAlike p.stanza before.repo.view → m.lasts p before.tree.nodes after.repo.view after.tree.nodes outcome

-- what its own part does to the disks: after all stages, or from any disk where only its places were opened
abbrev pub OwnSteps : Bool → SyncScope → Text → Command → Reached → View → View → View → View → Type 0
OwnSteps true how stanza command reached repo spool new_repo new_spool =
    DisksEffect how stanza command reached repo spool new_repo new_spool
OwnSteps false how stanza command reached repo spool new_repo new_spool =
    Takes how stanza command reached repo spool new_repo new_spool

pub record PartEffect {F : Type 0} (p : Place) (m : Meaning F) (before after : World)
    (result : Result Outcome (Fault F)) : Type 0 where
  pub steps : On (m.manner p (known_world before) (known_world after))
      (λ command. OwnSteps m.staged m.plan.sync_scope p.stanza command (reached_of m (ending_of result))
      before.repo.view before.spool.view after.repo.view after.spool.view)
  pub promise : IfOk result (m.promise p (known_world before) (known_world after))
  pub lasts : OnLasting m.plan.sync_scope m.plan.pairs (IfOk result (OwnLasts p m before after))
  pub synced : Unless m.unsyncs (StaysSynced p.stanza before.repo.view after.repo.view)
  pub folder_synced : Unless m.folder_unsynced (OnOk result (AllSynced after.tree))
  pub acknowledges : OnOk result (m.acknowledges p (disks_of before) (disks_of after))
  pub cause : IfErr result (OwnCause p m before after)
  pub healed : OnOk result (StaysHealed p m before after)
  pub spares : Spares p m before after result
  pub places : SamePlaces before after
  pub later : AreLater before after

-- ---- all of it

-- this holds of what the objects held as the command's own part began: of the repository what it holds now, except that
-- the archive pair was healed where the command heals it
abbrev pub OnReady : {F : Type 0} → Place → Meaning F → KnownWorld → (KnownWorld → Type 0) → Type 0
OnReady p m old P = (repo : Option Content) × Heals m.plan.pairs p.stanza old.repo repo × P (record old { repo = repo })

-- why a command ends without its result
abbrev pub Cause : {F : Type 0} → Place → Meaning F → World → World → Fault F → Type 0
Cause p m before after (Stage fault) = StageCause m.plan p.stanza before after fault
Cause p m before after (Own fault) = m.arguments_cause p fault
    ⊎ OnReady p m (known_world before) (λ old. m.cause p old (known_world after) (Failed before after) fault)
Cause p m before after (ObjectFailed object) = Failed before after object
Cause p m before after NoMemory = Unit {0}

-- the spool that is named is opened alone, and none where none is
abbrev pub OpensNamed : Option Text → List Text → List Text → Type 0
OpensNamed (Some place) old new = OpensOnly place old new
OpensNamed None old new = new ≡ old

abbrev pub IsOpenedNamed : Option Text → List Text → List Text → Type 0
IsOpenedNamed (Some place) old new = IsOpened place old new
IsOpenedNamed None old new = new ≡ old

-- no place but this is opened, and none where it isn't needed
abbrev pub OpensIf : Bool → Text → List Text → List Text → Type 0
OpensIf true place old new = OpensOnly place old new
OpensIf false place old new = new ≡ old

abbrev pub IsOpenedIf : Bool → Text → List Text → List Text → Type 0
IsOpenedIf true place old new = IsOpened place old new
IsOpenedIf false place old new = new ≡ old

-- no places but those that are asked for are opened
pub record OpensPlaces {F : Type 0} (p : Place) (m : Meaning F) (before after : World) : Type 0 where
  pub spool : OpensNamed m.spool before.spool.opened after.spool.opened
  pub folder : OpensIf m.plan.folder p.data_folder before.tree.opened after.tree.opened
  pub repository : OpensOnly p.repository before.repo.opened after.repo.opened

-- each of them was
pub record ArePlacesOpened {F : Type 0} (p : Place) (m : Meaning F) (before after : World) : Type 0 where
  pub spool : IsOpenedNamed m.spool before.spool.opened after.spool.opened
  pub folder : IsOpenedIf m.plan.folder p.data_folder before.tree.opened after.tree.opened
  pub repository : IsOpened p.repository before.repo.opened after.repo.opened

-- the command's locks were taken
abbrev pub TakesAll : {F : Type 0} → Place → Meaning F → World → World → Type 0
TakesAll p m before after = TakesLocks m.plan p.lock_folder p.stanza before.locks.ever_taken after.locks.ever_taken

-- Without its locks nothing is done: all were taken, or at most the first one was, and the disk is as before.
abbrev pub OnlyLocked : {F : Type 0} → Place → Meaning F → World → World → Type 0
OnlyLocked p m before after = TakesAll p m before after
    ⊎ (MayTake m.plan p.lock_folder p.stanza before.locks.ever_taken after.locks.ever_taken
    × IsStill before.repo.view after.repo.view)

-- where no name that is looked at was unsynced, the answer holds of all that a crash leaves
abbrev pub LastsAfter : {F : Type 0} → Place → Meaning F → World → World → Outcome → Type 0
LastsAfter p m before after outcome = IsSynced p.stanza before.repo.view → IsSome before.repo.view.now
    → OnLasting m.plan.sync_scope m.plan.pairs (m.lasts p before.tree.nodes after.repo.view after.tree.nodes outcome)

-- the pairs that the command heals agree, and where no name that is looked at was unsynced no crash removes a member of
-- them
pub record HealsPairs {F : Type 0} (p : Place) (m : Meaning F) (before after : World) : Type 0 where
  pub agree : IsSome before.repo.view.now → IfSome after.repo.view.now (AreHealed m.plan.pairs p.stanza)
  pub lasts : IsSynced p.stanza before.repo.view → IsSome before.repo.view.now
      → HealsToLast m.plan.pairs p.stanza after.repo.view

pub record CallEffect {F : Type 0} (p : Place) (m : Meaning F) (before after : World)
    (result : Result Outcome (Fault F)) : Type 0 where
  pub steps : On (m.manner p (known_world before) (known_world after))
      (λ command. Takes m.plan.sync_scope p.stanza command (reached_of m (ending_of result)) before.repo.view
      before.spool.view after.repo.view after.spool.view)
  pub promise : IfOk result
      (λ outcome. OnReady p m (known_world before) (λ old. m.promise p old (known_world after) outcome))
  pub lasts : IfOk result (LastsAfter p m before after)
  pub synced : Unless m.unsyncs (StaysSynced p.stanza before.repo.view after.repo.view)
  pub folder_synced : Unless m.folder_unsynced (OnOk result (AllSynced after.tree))
  pub acknowledges : OnOk result (m.acknowledges p (disks_of before) (disks_of after))
  pub cause : IfErr result (Cause p m before after)
  pub healed : OnOk result (HealsPairs p m before after)
  pub spares : Spares p m before after result
  pub later : AreLater before after

-- the places and the locks
pub record Brackets {F : Type 0} (p : Place) (m : Meaning F) (before after : World) (result : Result Outcome (Fault F)) :
    Type 0 where
  pub places : OpensPlaces p m before after
  pub opened : OnOk result (ArePlacesOpened p m before after)
  pub ever_taken : OnOk result (TakesAll p m before after)
  pub locked : OnlyLocked p m before after

-- ---- arguments

-- why a command's arguments are refused
abbrev pub ArgumentsCause : {F : Type 0} → Place → Meaning F → Fault F → Type 0
ArgumentsCause p m (Own fault) = m.arguments_cause p fault
ArgumentsCause p m NoMemory = Unit {0}
ArgumentsCause p m other = ⊥

-- a refusal is of the command's arguments, and nothing was done, not even a place opened; or it comes after arguments
-- that fit
abbrev pub ComesAfter : {F : Type 0} → Place → Meaning F → World → World → Result Outcome (Fault F) → Type 0
ComesAfter p m before after result = IfErr result
    (λ fault. (ArgumentsCause p m fault × IsIdle before after) ⊎ m.arguments p)

-- ---- how it is reported

-- how it ended is shown by the status and the output, unless the output failed, or memory did
abbrev pub IsAnswered : {F : Type 0} → Meaning F → List Text → World → World → Result Outcome (Fault F) → ℕ → Type 0
IsAnswered m unknown before after ended result =
    IsPrinted before.out.written (lines_of m unknown (ending_of ended)) (status m (ending_of ended)) after.out.written
    (Failed before after Output) result

-- A command did what was asked for, and reports how it ended.
pub record Carries {F : Type 0} (p : Place) (m : Meaning F) (unknown : List Text) (before after : World) (result : ℕ) :
    Type 0 where
  pub ended : Result Outcome (Fault F)
  pub arguments : ComesAfter p m before after ended
  pub did : CallEffect p m before after ended
  pub brackets : Brackets p m before after ended
  pub answered : IsAnswered m unknown before after ended result

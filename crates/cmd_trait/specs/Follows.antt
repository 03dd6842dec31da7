-- What follows for a command that is asked for.
use Rattle.std.specs.Prelude.{◌≡◌, ◌≢◌, ◌≤◌, ◌⊎◌, ◌++◌, ℕ, true, false, List, Result, Ok, option_map}
use Rattle.base_devices.specs.States.{AllSynced}
use Rattle.base_model.specs.Text.{Text}
use Rattle.base_crash_lists.specs.Beside.{StaysBeside}
use Rattle.cmd_setup.specs.Calls.{StaysSynced}
use Rattle.cmd_types.specs.declared.stages.outcome.Outcome.{Outcome}
use Rattle.cmd_types.specs.DisksEffect.{On, OnWhole, Leads, Passes, PassesReceipts, EndsAtOne, turns_of}
use Rattle.cmd_types.specs.World.{World}
use Rattle.cmd_trait.specs.declared.fault.Fault.{Fault}
use Rattle.cmd_trait.specs.KnownWorld.{known_world}
use Rattle.cmd_trait.specs.Meaning.{Place, Meaning, Unless, TurnsKnown, disks_of}
use Rattle.cmd_trait.specs.Ends.{Ending, status, ending_of, lines_of}
use Rattle.cmd_trait.specs.CallEffect.{OnReady, LastsAfter, HealsPairs, ArePlacesOpened, TakesAll}

-- all of its steps are done, in what the disks hold and in all that a crash leaves
abbrev pub AllDone : {F : Type 0} → Place → Meaning F → World → World → Type 0
AllDone p m before after = On (m.manner p (known_world before) (known_world after))
    (λ command. Leads p.stanza command true before.repo.view before.spool.view after.repo.view after.spool.view)

-- and where the command syncs the whole stanza, all that a crash leaves represents one repository, with all of them
abbrev pub AllAtOne : {F : Type 0} → Place → Meaning F → World → World → Type 0
AllAtOne p m before after = On (m.manner p (known_world before) (known_world after))
    (λ command. OnWhole m.plan.sync_scope (EndsAtOne p.stanza command before.repo.view after.repo.view))

-- a part of them is, at its end and at each moment
abbrev pub PartDone : {F : Type 0} → Place → Meaning F → World → World → Type 0
PartDone p m before after = On (m.manner p (known_world before) (known_world after))
    (λ command. Leads p.stanza command false before.repo.view before.spool.view after.repo.view after.spool.view
    × Passes p.stanza command before.repo.view after.repo.view
    × PassesReceipts p.stanza command before.repo.view before.spool.view after.spool.view)

-- none is but the pushes of the steps that it waited for
abbrev pub NoneDone : {F : Type 0} → Place → Meaning F → World → World → Type 0
NoneDone p m before after = On (m.manner p (known_world before) (known_world after))
    (λ command. Leads p.stanza (turns_of command) false before.repo.view before.spool.view after.repo.view
    after.spool.view)

-- At 0 all is done. All that a crash leaves represents one repository where the whole stanza was synced. The pairs that
-- the command heals agree and no crash removes a member of them. Its places were opened and its locks taken.
pub record Finishes {F : Type 0} (p : Place) (m : Meaning F) (before after : World) : Type 0 where
  pub all : AllDone p m before after
  pub ends : AllAtOne p m before after
  pub healed : HealsPairs p m before after
  pub opened : ArePlacesOpened p m before after
  pub ever_taken : TakesAll p m before after

-- the statuses of a command that succeeded: Ok, that the file isn't there, and Ok with findings
abbrev pub EndsWell : ℕ → Type 0
EndsWell status = (status ≤ 1) ⊎ (status ≡ 65)

-- at one of these: it ended in this way, keeps its promise, also of all that a crash leaves, acknowledges what is so, and
-- wrote its lines. A crash leaves the data folder as it is, where the command syncs it.
pub record Fulfils {F : Type 0} (p : Place) (m : Meaning F) (before after : World) (result : ℕ) : Type 0 where
  pub outcome : Outcome
  pub is : result ≡ status m (ending_of (Ok outcome))
  pub promise : OnReady p m (known_world before) (λ old. m.promise p old (known_world after) outcome)
  pub lasts : LastsAfter p m before after outcome
  pub folder_synced : Unless m.folder_unsynced (AllSynced after.tree)
  pub acknowledges : m.acknowledges p (disks_of before) (disks_of after)
  pub unknown : List Text
  pub wrote : after.out.written ≡ option_map (λ (text : Text). text ++ lines_of m unknown (ending_of (Ok outcome)))
      before.out.written

-- refused before its first step it has taken no step but the steps of others that it waited for, and has left unchanged
-- what it then leaves
pub record TurnsBack {F : Type 0} (p : Place) (m : Meaning F) (before after : World) (result : ℕ) : Type 0 where
  pub none : NoneDone p m before after
  pub turned : m.turned p (known_world before) (known_world after) result

-- After every answer the command has kept to its stanza, and to what it may change in the repository, where what others
-- did meanwhile is known; and to what else it may change. No name that is looked at became unsynced, unless the command
-- may do that. What it doesn't use is unchanged.
pub record LeavesRest {F : Type 0} (p : Place) (m : Meaning F) (before after : World) : Type 0 where
  pub beside : TurnsKnown p m (known_world after) → StaysBeside p.stanza before.repo.view after.repo.view
  pub spool : TurnsKnown p m (known_world after) → StaysBeside p.stanza before.spool.view after.spool.view
  pub repository : TurnsKnown p m (known_world after)
      → m.repo_effect p before.clock.least before.repo.view after.repo.view
  pub synced : Unless m.unsyncs (StaysSynced p.stanza before.repo.view after.repo.view)
  pub folder : m.folder_effect p (known_world before) after.tree.nodes
  pub others : m.others_effect p before.others after.others
  pub server : Unless m.uses.server (after.server ≡ before.server)
  pub workers : Unless m.uses.workers (after.links ≡ before.links)
  pub clock : Unless m.uses.clock (after.clock ≡ before.clock)

-- Calls of `run`, and the calls of the log that they are.
use Rattle.std.specs.Prelude.{◌≡◌, ◌≢◌, ◌⊎◌, ◌↔◌, ◌++◌, ℕ, true, List, ◌∷◌, Option, Some, None, Ok, option_map}
use Rattle.base_devices.specs.Content.{Content}
use Rattle.base_devices.specs.Moments.{View}
use Rattle.base_model.specs.Text.{Text}
use Rattle.base_model.specs.Repository.{Repository, IsSound}
use Rattle.base_model.specs.Represents.{Represents}
use Rattle.base_model.specs.Log.{Done, Reaches}
use Rattle.base_crash_lists.specs.Trace.{Disks, Call, Does, AreStill, log_of}
use Rattle.cmd_types.specs.Plans.{Heals}
use Rattle.cmd_types.specs.World.{World}
use Rattle.cmd_types.specs.declared.stages.outcome.Outcome.{Outcome}
use Rattle.options_read.specs.Settings.{Resolved}
use Rattle.program_run.specs.Answers.{Answers}
use Rattle.program_run.specs.Asked.{asked, MayAsk}
use Rattle.cmd_trait.specs.CallEffect.{OnLasting}
use Rattle.cmd_trait.specs.Ends.{status as status_at, ending_of, lines_of}
use Rattle.cmd_trait.specs.Follows.{EndsWell}
use Rattle.cmd_trait.specs.KnownWorld.{KnownWorld, known_world}
use Rattle.cmd_trait.specs.Meaning.{TurnsKnown, IsOf, disks_of}

-- the two disks
abbrev pub both : View → View → Disks
both repo spool = record { repo = repo; spool = spool }

-- what the two disks hold
abbrev pub disks_in : World → Disks
disks_in w = both w.repo.view w.spool.view

-- What `run` does between what the objects report before and after it: it answers the arguments, and the
-- configuration's files stay.
pub record IsCall (arguments : List Text) (old new : World) (status : ℕ) : Type 0 where
  pub answers : Answers arguments old new status
  pub files : new.config.files ≡ old.config.files

-- ---- the call of the log

-- what others did meanwhile is known of the stanza that the arguments ask for, where the call waits for steps of theirs
abbrev pub ShowsTurns : List Text → Option Content → KnownWorld → Type 0
ShowsTurns arguments files after = (s : Resolved) → MayAsk arguments files s
    → TurnsKnown (asked s).at (asked s).means after

-- The call that the arguments ask for, by what the objects hold before and after it, acknowledged where the status is
-- 0.
pub record IsCallOf (arguments : List Text) (files : Option Content) (old new : KnownWorld) (status : ℕ) (c : Call) :
    Type
    0 where
  pub resolved : Resolved
  pub asks : MayAsk arguments files resolved
  pub stanza : c.stanza ≡ (asked resolved).at.stanza
  pub command : IsOf ((asked resolved).means.manner (asked resolved).at old new) c.done.command
  pub acknowledged : (c.done.acknowledged ≡ true) ↔ (status ≡ 0)

-- What a call of `run` does: its arguments were refused and it did nothing, which isn't given by status 0; or it is the
-- call that the arguments ask for.
abbrev pub IsShown : List Text → Option Content → KnownWorld → KnownWorld → ℕ → Disks → Disks → Type 0
IsShown arguments files before after status old new = ((status ≢ 0) × AreStill old new)
    ⊎ ((c : Call) × IsCallOf arguments files before after status c × Does c old new)

-- ---- what it gave

-- What a call gave that succeeded, by what the log before it made of its stanza's repository: a sound one, which the
-- disk represents as the command's own part begins. It ended so, keeps its promise of that, also in all that a crash
-- leaves, acknowledges what is so, and wrote its lines.
pub record IsGiven (q : Repository) (log : List Done) (s : Resolved) (old new : World) (status : ℕ) : Type 0 where
  pub repository : Repository
  pub reached : Reaches q log repository
  pub sound : IsSound repository
  pub begun : Content
  pub healed : Heals (asked s).means.plan.pairs (asked s).at.stanza old.repo.view.now (Some begun)
  pub represents : Represents (asked s).at.stanza begun repository
  pub outcome : Outcome
  pub is : status ≡ status_at (asked s).means (ending_of (Ok outcome))
  pub promise : (asked s).means.promise (asked s).at (record (known_world old) { repo = Some begun }) (known_world new)
      outcome
  pub lasts : OnLasting (asked s).means.plan.sync_scope (asked s).means.plan.pairs
      ((asked s).means.lasts (asked s).at old.tree.nodes new.repo.view new.tree.nodes outcome)
  pub acknowledges : (asked s).means.acknowledges (asked s).at (disks_of old) (disks_of new)
  pub wrote : new.out.written
      ≡ option_map (λ (text : Text). text ++ lines_of (asked s).means s.warnings (ending_of (Ok outcome)))
      old.out.written

-- The call of the log that a call of `run` makes after these, from a repository for each stanza on: none where the
-- arguments were refused, which no status of a command that succeeded gives. Else it is the one that they ask for,
-- and where it succeeded it gave what it had to.
abbrev pub IsMade : (Text → Repository) → List Call → List Text → World → World → ℕ → Option Call → Type 0
IsMade q before arguments old new status None = ¬ EndsWell status
IsMade q before arguments old new status (Some c) =
    (is : IsCallOf arguments old.config.files (known_world old) (known_world new) status c)
    × (EndsWell status → IsGiven (q c.stanza) (log_of c.stanza before) is.resolved old new status)

-- the log continues by the call, where there is one
abbrev pub grown : Option Call → List Call → List Call
grown None before = before
grown (Some c) before = c ∷ before

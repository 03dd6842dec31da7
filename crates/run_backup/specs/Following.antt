-- What a backup means with the expiry that may follow it (option `expire-auto`): the same for both kinds.
use Rattle.std.specs.Prelude.{ℕ, Bool, true, false, Option, None, Some, IsSomeAnd, String, string_bytes}
use Rattle.std.specs.declared.alloc.Global.{Global}
use Rattle.base_devices.specs.Content.{Content}
use Rattle.base_devices.specs.Moments.{View}
use Rattle.base_model.specs.Steps.{Command}
use Rattle.base_model.specs.Text.{Text}
use Rattle.archive_lookup.specs.Turns.{ProcessesState}
use Rattle.cmd_types.specs.declared.stages.object.Object.{Object}
use Rattle.cmd_types.specs.declared.stages.object.Object.TheVariants.{Repo, Clock as TheClock}
use Rattle.cmd_types.specs.declared.stages.outcome.Outcome.{Outcome}
use Rattle.cmd_types.specs.declared.stages.outcome.Outcome.TheVariants.{Finished}
use Rattle.cmd_types.specs.declared.stages.plan.Plan.{Plan}
use Rattle.cmd_types.specs.DisksEffect.{Manner, one, provided}
use Rattle.cmd_types.specs.Reached.{OnFinished}
use Rattle.expire_rules.specs.declared.rules.Rules.{Rules}
use Rattle.cmd_expire.specs.declared.fault.FollowUpFault.{FollowUpFault}
use Rattle.cmd_expire.specs.Changing.{ExpiresNow}
use Rattle.cmd_expire.specs.FollowUp.{AddsLines, FollowUpCause, IsFollowed, WasKnown}
use Rattle.cmd_expire.specs.Pruning.{IsMomentIn}
use Rattle.cmd_trait.specs.KnownWorld.{KnownWorld}
use Rattle.cmd_trait.specs.Meaning.{Place, Meaning, TurnsKnownIf, reading_plan, usual_meaning}
use Rattle.run_backup.specs.declared.fault.BackupCommandFault.{BackupCommandFault}
use Rattle.run_backup.specs.declared.fault.BackupCommandFault.TheVariants.{Backup, FollowUp}
use Rattle.run_backup.specs.Faults.{backup_early, backup_lines, backup_message, backup_status}

-- ---- the backup

-- what of a backup depends on its kind
pub record BackupMeaning (F : Type 0) : Type 1 where
  -- the server is running: it is asked, and steps of others are waited for
  pub running : Bool
  -- it is this command of the repository's log, from what the objects hold before and after it
  pub makes : Place → KnownWorld → KnownWorld → Command → Type 0
  -- Ok, with these lines: what it promises of what the disk held as it ended
  pub promise : Place → KnownWorld → KnownWorld → Option Content → Text → Type 0
  -- why it is refused, and how the talk to the server was left that it then ended
  pub cause : Place → KnownWorld → KnownWorld → F → Type 0
  pub closes : Place → KnownWorld → KnownWorld → (Object → Type 0) → F → Type 0
  -- What it may change in the repository, with what others change meanwhile, where their steps are known, and with the
  -- expiry by these rules after it, where there are some. The number is the least second that the clock may show as the
  -- command begins.
  pub changes : Option Rules → Place → ℕ → View → View → Type 0
  -- the refusal's status and message
  pub status : F → ℕ
  pub message : F → Text
  -- what other processes are at, after every answer
  pub others_effect : Place → ProcessesState → ProcessesState → Type 0

-- Ok of a backup: what it promises of what the disk held as it ended, before an expiry
abbrev pub IsBackedUp : {F : Type 0} → BackupMeaning F → Place → KnownWorld → KnownWorld → Option Content → Outcome
    → Type 0
IsBackedUp m p old new repo outcome = OnFinished outcome (m.promise p old new repo)

-- the command is of this kind, provided that what others did meanwhile is known of the stanza, where steps of theirs
-- are waited for
abbrev pub manner_by : Bool → Text → KnownWorld → (Command → Type 0) → Manner
manner_by true stanza new Is = provided (TurnsKnownIf true stanza new) Is
manner_by false stanza new Is = one Is

-- ---- the expiry after it

-- a command of this kind, with the expiry after it by these rules, where one follows; the two are the least seconds
-- that the clock may show before both and afterwards
abbrev pub WithExpiry : Option Rules → ℕ → ℕ → (Command → Type 0) → Command → Type 0
WithExpiry rules first last Is command = (made : Command) × Is made × IsFollowed rules first last made command

-- what the disk held, and how the command had ended, as an expiry began after it that states by its lines what was
-- removed; least is the least second that the clock might show as the command began
pub record BeforeExpiry (stanza : Text) (rules : Rules) (least : ℕ) (Was : Option Content → Outcome → Type 0)
    (new : KnownWorld) (outcome : Outcome) : Type 0 where
  pub repo : Option Content
  pub lines : String Global
  pub was : Was repo (Finished lines)
  pub moment : ℕ
  pub may_be : IsMomentIn rules.full least new.clock.least moment
  pub known : WasKnown rules.full new.clock moment
  pub adds : OnFinished outcome (AddsLines stanza rules moment repo new.repo (string_bytes lines))

-- this holds of what the disk held before the expiry that follows, if one does
abbrev pub AfterIt : Option Rules → Text → ℕ → (Option Content → Outcome → Type 0) → KnownWorld → Outcome → Type 0
AfterIt None stanza least Was new outcome = Was new.repo outcome
AfterIt (Some rules) stanza least Was new outcome = BeforeExpiry stanza rules least Was new outcome

-- A backup was made, with its lines, and the expiry by these rules that follows it ended for this. From there on no
-- more changed than an expiry may change.
abbrev pub EndsFollowing : {F : Type 0} → BackupMeaning F → Option Rules → Place → KnownWorld → KnownWorld
    → (Object → Type 0) → String Global → FollowUpFault → Type 0
EndsFollowing m expires p old new failed lines fault = (repo : Option Content)
    × IsBackedUp m p old new repo (Finished lines) × FollowUpCause p.stanza repo (failed Repo) (failed TheClock) fault
    × IsSomeAnd expires (λ rules. ExpiresNow p.stanza rules old.clock.least new.clock.least repo new.repo)

-- ---- both

-- why the backup is refused, or the expiry after it isn't done, or not whole
abbrev pub CommandCause : {F : Type 0} → BackupMeaning F → Option Rules → Place → KnownWorld → KnownWorld
    → (Object → Type 0) → BackupCommandFault F → Type 0
CommandCause m expires p old new failed (Backup fault) = m.cause p old new fault
CommandCause m expires p old new failed (FollowUp lines fault) =
    EndsFollowing m expires p old new failed lines fault

-- how the talk was left that a refusal of the backup ended
abbrev pub CommandCloses : {F : Type 0} → BackupMeaning F → Place → KnownWorld → KnownWorld → (Object → Type 0)
    → BackupCommandFault F → Type 0
CommandCloses m p old new failed (Backup fault) = m.closes p old new failed fault
CommandCloses m p old new failed (FollowUp lines fault) = Unit {0}

-- the whole stanza is synced, the data folder is opened and its control file is read, the backup lock is taken, and
-- both pairs are read
abbrev pub backup_stages : Plan
backup_stages = record reading_plan { folder = true; backup_lock = true; control = true }

-- a backup of this kind, and then the expiry by these rules, where there are some
abbrev pub backup_meaning : {F : Type 0} → BackupMeaning F → Option Rules → Meaning (BackupCommandFault F)
backup_meaning m expires = record (usual_meaning (backup_status m.status) (backup_message m.message)) {
  plan = backup_stages;
  uses = record { turns = m.running; spool = m.running; server = m.running; workers = true; clock = true };
  unsyncs = true;
  manner = λ p old new. manner_by m.running p.stanza new
      (WithExpiry expires old.clock.least new.clock.least (m.makes p old new));
  promise = λ p old new outcome. AfterIt expires p.stanza old.clock.least (IsBackedUp m p old new) new outcome;
  cause = CommandCause m expires;
  closes = CommandCloses m;
  early = backup_early;
  lines = backup_lines;
  repo_effect = λ p least old new. m.changes expires p least old new;
  others_effect = m.others_effect;
}

-- What expire does (pgBackRest command reference, "Expire Command").
use Rattle.std.specs.Prelude.{◌≡◌, ◌≤◌, ◌⊎◌, ℕ, Bool, true, false, List, Option, Some, Result, IfOk, IfSome, IsSome, OnOk, length}
use Rattle.base_devices.specs.Content.{Content}
use Rattle.base_devices.specs.Moments.{View}
use Rattle.base_devices.specs.States.{ClockState, DiskState, ShowsSecond}
use Rattle.base_model.specs.declared.labels.Label.{Label}
use Rattle.base_model.specs.declared.clusters.ArchiveInfo as rust_archive_info
use Rattle.base_model.specs.declared.clusters.BackupInfo as rust_backup_info
use Rattle.base_model.specs.Names.{backup_info}
use Rattle.base_model.specs.Now.{NowRepresents}
use Rattle.base_model.specs.Repository.{Stanza, IsSoundStanza}
use Rattle.base_model.specs.Steady.{IsSteady, LeavesOnly}
use Rattle.base_model.specs.Steps.{Command, Expire}
use Rattle.base_model.specs.Text.{Text}
use Rattle.base_model.specs.Values.{ArchiveInfo, BackupInfo, archive_info_of, backup_info_of}
use Rattle.repo_stanza.specs.HealingPair.{backup_text}
use Rattle.repo_stanza.specs.Judging.{Validates}
use Rattle.archive_store.specs.Still.{IsStill}
use Rattle.repo_stanza.specs.Pairs.{AgreeAt, DifferFirst, HasPending, identities}
use Rattle.expire_rules.specs.declared.rules.FullRule.{FullRule}
use Rattle.expire_rules.specs.declared.rules.FullRule.TheVariants.{Days}
use Rattle.expire_rules.specs.declared.rules.Rules.{Rules}
use Rattle.expire_rules.specs.Condemned.{condemned_labels}
use Rattle.expire_make.specs.Emptying.{LeavesListed}
use Rattle.expire_make.specs.Expiry.{Touches, listed, retention, expired_of, HasNeeded}
use Rattle.expire_make.specs.Planning.{BackupPairLasts}
use Rattle.expire_make.specs.Removed.{CountsGone}
use Rattle.cmd_types.specs.declared.stages.halt.Halt.{Halt}
use Rattle.cmd_types.specs.declared.stages.outcome.Outcome.{Outcome}
use Rattle.cmd_types.specs.declared.stages.plan.SyncScope.TheVariants.{Whole}
use Rattle.cmd_types.specs.Reached.{OnFinished, reached_by}
use Rattle.cmd_types.specs.DisksEffect.{OnNone, RepoEffect}
use Rattle.cmd_expire.specs.declared.fault.ExpireCommandFault.{ExpireCommandFault}
use Rattle.cmd_expire.specs.declared.fault.ExpireCommandFault.TheVariants.{HistoryDiffers}
use Rattle.cmd_expire.specs.Faults.{expire_early}
use Rattle.cmd_expire.specs.Texts.{lines_of}

-- ---- the moment

-- the rule counts days
abbrev pub counts_days : FullRule → Bool
counts_days (Days n) = true
counts_days other = false

-- By which moment the rules may be read: where they count days, by none before the least second that the clock may
-- show; else it is 0.
abbrev pub IsMoment : FullRule → ℕ → ℕ → Type 0
IsMoment (Days n) least moment = least ≤ moment
IsMoment other least moment = moment ≡ 0

-- By which moment they may be read between two states of the clock: by one of these, and, unless it is the least second
-- that it might show before, by none after the least that it may show afterwards.
abbrev pub IsMomentIn : FullRule → ℕ → ℕ → ℕ → Type 0
IsMomentIn (Days n) first last moment = (first ≤ moment) × ((moment ≡ first) ⊎ (moment ≤ last))
IsMomentIn other first last moment = moment ≡ 0

-- by which they are read: where they count days, by the second that the clock showed; else it is 0
abbrev pub ShowsMoment : FullRule → ClockState → ClockState → ℕ → Type 0
ShowsMoment (Days n) old new moment = ShowsSecond moment old new
ShowsMoment other old new moment = moment ≡ 0

-- an expiry by these rules; the two are the least seconds that the clock may show before and afterwards
abbrev pub IsExpiryBy : Rules → ℕ → ℕ → Command → Type 0
IsExpiryBy rules first last command = (moment : ℕ) × IsMomentIn rules.full first last moment
    × (command ≡ Expire (retention rules moment))

-- ---- what it does

-- Ok of an expiry at a moment, with its lines: these labels and this many files of the archive were removed.
pub record IsExpired (stanza : Text) (rules : Rules) (moment : ℕ) (old new : Option Content) (lines : Text) : Type
    0 where
  pub labels : List Label
  pub removed : ℕ
  pub lines_are : lines ≡ lines_of labels removed
  pub counts : CountsGone stanza removed old new
  -- they are those that the rules expire, and the stanza is left without these
  pub condemned : (s : Stanza) → IsSome old → NowRepresents stanza (Some s) old
      → labels ≡ condemned_labels rules moment (listed s)
  pub left : (s : Stanza) → IsSoundStanza s → IsSome old → NowRepresents stanza (Some s) old
      → NowRepresents stanza (expired_of (retention rules moment) s) new
  -- both members of the backup pair are alike
  pub alike : IsSome old → IfSome new (AgreeAt (backup_info stanza))
  -- whatever else the repository holds: what is left of the list, of the folders of labels and of the archive
  pub leaves : LeavesListed stanza rules moment old new

-- What expire does, at some moment: at the one that the clock showed, or nothing changes.
pub record Prunes (stanza : Text) (rules : Rules) (clock new_clock : ClockState) (repo new_repo : View)
    (result : Result Outcome (Halt ExpireCommandFault)) : Type 0 where
  pub moment : ℕ
  pub may_be : IsMomentIn rules.full clock.least new_clock.least moment
  pub shown : IsStill repo new_repo ⊎ ShowsMoment rules.full clock new_clock moment
  pub known : OnOk result (ShowsMoment rules.full clock new_clock moment)
  pub does : RepoEffect Whole stanza (Expire (retention rules moment)) (reached_by expire_early result) repo new_repo
  pub pruned : IfOk result (λ outcome. OnFinished outcome (IsExpired stanza rules moment repo.now new_repo.now))
  -- at each moment each backup that stays and each file that it needs have the bytes that they had
  pub keeps : (s : Stanza) → IsSoundStanza s → IsSome repo.now → IsSteady stanza (Some s) repo
      → LeavesOnly (HasNeeded stanza (retention rules moment) s) repo new_repo
  -- nothing changes but the backup pair, folders of labels that aren't listed in the end, and files that aren't needed
  -- then
  pub touches : Touches stanza rules moment repo new_repo
  -- both members of the backup pair are alike in all that a crash leaves
  pub lasts : OnOk result (BackupPairLasts stanza repo new_repo)

-- ---- why it is refused

-- the values state histories that differ
abbrev pub Differs : ArchiveInfo → BackupInfo → ExpireCommandFault → Type 0
Differs archive backup (HistoryDiffers at) = DifferFirst at archive.history (identities backup)
    × ¬ HasPending archive backup

-- the list to which these values of the two pairs validate
abbrev pub ValidatesTo : rust_archive_info.ArchiveInfo → rust_backup_info.BackupInfo → rust_backup_info.BackupInfo
    → Type 0
ValidatesTo archive backup list = Validates (archive_info_of archive) (backup_info_of backup) (backup_info_of list)

-- the first one's text isn't longer than the second one's
abbrev pub IsNoLonger : rust_backup_info.BackupInfo → rust_backup_info.BackupInfo → Type 0
IsNoLonger list backup = length (backup_text (backup_info_of list)) ≤ length (backup_text (backup_info_of backup))

-- ---- of a disk's two states

-- an expiry at a moment goes through its steps, or a part of them
abbrev pub DoesExpiry : Text → Rules → ℕ → DiskState → DiskState → Result Outcome (Halt ExpireCommandFault) → Type 0
DoesExpiry stanza rules moment old new result = RepoEffect Whole stanza (Expire (retention rules moment))
    (reached_by expire_early result) old.view new.view

-- its lines say what was removed
abbrev pub FinishesExpired : Text → Rules → ℕ → DiskState → DiskState → Outcome → Type 0
FinishesExpired stanza rules moment old new outcome = OnFinished outcome
    (IsExpired stanza rules moment old.view.now new.view.now)

-- where it is refused, the disk stays as it was
abbrev pub StaysIfRefused : DiskState → DiskState → Result Outcome (Halt ExpireCommandFault) → Type 0
StaysIfRefused old new result = OnNone (reached_by expire_early result) (IsStill old.view new.view)

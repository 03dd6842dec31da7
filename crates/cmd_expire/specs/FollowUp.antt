-- The expiry that follows a backup (option `expire-auto`), which is one command of the log with it.
use Rattle.std.specs.Prelude.{◌≡◌, ◌≤◌, ◌⊎◌, ◌++◌, ℕ, List, Option, Some, None, Result, IsSome, OnOk, OnErr, String, string_bytes}
use Rattle.std.specs.declared.alloc.Global.{Global}
use Rattle.base_devices.specs.Content.{Content}
use Rattle.base_devices.specs.Moments.{View}
use Rattle.base_devices.specs.States.{ClockState, DiskState, DiskFailed, last_second}
use Rattle.base_model.specs.Now.{NowRepresents}
use Rattle.base_model.specs.Repository.{Backup, Repository, IsSound}
use Rattle.base_model.specs.Steps.{Turn, Command, MakeBackup, Expire, after, all_of, steps_of}
use Rattle.base_model.specs.Text.{Text}
use Rattle.repo_pair.specs.declared.fault.InfoFault.{InfoFault}
use Rattle.archive_store.specs.Still.{IsStill}
use Rattle.expire_rules.specs.declared.rules.FullRule.{FullRule}
use Rattle.expire_rules.specs.declared.rules.FullRule.TheVariants.{Days}
use Rattle.expire_rules.specs.declared.rules.Rules.{Rules}
use Rattle.expire_make.specs.declared.expiry_run.Expired.{Expired}
use Rattle.expire_make.specs.declared.fault.ExpireFault.{ExpireFault}
use Rattle.expire_make.specs.declared.fault.ExpireFault.TheVariants as expiries
use Rattle.expire_make.specs.Expiry.{Touches, retention}
use Rattle.expire_make.specs.Planning.{BackupPairLasts}
use Rattle.expire_make.specs.Fault.{ExpireCause}
use Rattle.cmd_types.specs.declared.stages.plan.SyncScope.TheVariants.{Whole}
use Rattle.cmd_types.specs.DisksEffect.{DoesPart, DoesWhole}
use Rattle.cmd_expire.specs.declared.fault.FollowUpFault.{FollowUpFault}
use Rattle.cmd_expire.specs.declared.fault.FollowUpFault.TheVariants.{PairLost, HistoryDiffers, Repo, Clock, NoMemory}
use Rattle.cmd_expire.specs.Pruning.{IsMomentIn, ShowsMoment, IsExpired}
use Rattle.cmd_expire.specs.Texts.{lines_of}

-- ---- which command it is

-- What the command is to one that makes a backup: that one, or the same with an expiry after it by these rules, at
-- some moment. The two numbers are the least seconds that the clock may show before both and afterwards.
abbrev pub IsFollowed : Option Rules → ℕ → ℕ → Command → Command → Type 0
IsFollowed None first last made command = command ≡ made
IsFollowed (Some rules) first last made command = (turns : List Turn) × (b : Backup) × (moment : ℕ)
    × IsMomentIn rules.full first last moment
    × (made ≡ MakeBackup turns b None) × (command ≡ MakeBackup turns b (Some (retention rules moment)))

-- whatever sound repository the disk represents, it is sound after all of the command's steps
abbrev pub StaysSound : Text → Command → Option Content → Type 0
StaysSound stanza command now = (r : Repository) → IsSome now → NowRepresents stanza r now → IsSound r
    → IsSound (after r (all_of (steps_of command r)))

-- ---- what it does

-- what was removed is reported after the lines
abbrev pub AddsLines : Text → Rules → ℕ → Option Content → Option Content → Text → Text → Type 0
AddsLines stanza rules moment old new lines new_lines = (rest : Text) × (new_lines ≡ lines ++ rest)
    × IsExpired stanza rules moment old new rest

-- the lines that say what was removed are added
abbrev pub AddsReport : Expired → String Global → String Global → Type 0
AddsReport gone old new = string_bytes new ≡ string_bytes old ++ lines_of gone.labels.items gone.removed

-- the same for an expiry at a moment
abbrev pub AddsExpiry : Text → Rules → ℕ → DiskState → DiskState → String Global → String Global → Type 0
AddsExpiry stanza rules moment old new lines new_lines =
    AddsLines stanza rules moment old.view.now new.view.now (string_bytes lines) (string_bytes new_lines)

-- by which moment the rules are read after a backup: where they count days, by a second that the clock showed; else it
-- is 0
abbrev pub WasKnown : FullRule → ClockState → ℕ → Type 0
WasKnown (Days n) clock moment = (moment ≤ last_second) × (moment ≤ clock.least)
WasKnown other clock moment = moment ≡ 0

-- What the expiry after a backup does, at some moment: at the one that the clock showed, or nothing changes. Where it
-- succeeded, what was removed is reported after the lines.
pub record Follows (stanza : Text) (rules : Rules) (clock new_clock : ClockState) (repo new_repo : View)
    (lines new_lines : Text) (result : Result (Unit {0}) FollowUpFault) : Type 0 where
  pub moment : ℕ
  pub may_be : IsMomentIn rules.full clock.least new_clock.least moment
  pub shown : IsStill repo new_repo ⊎ ShowsMoment rules.full clock new_clock moment
  pub known : OnOk result (ShowsMoment rules.full clock new_clock moment)
  pub part : DoesPart Whole stanza (Expire (retention rules moment)) repo new_repo
  pub whole : OnOk result (DoesWhole Whole stanza (Expire (retention rules moment)) repo new_repo)
  pub pruned : OnOk result (AddsLines stanza rules moment repo.now new_repo.now lines new_lines)
  pub stays : OnErr result (new_lines ≡ lines)
  pub touches : Touches stanza rules moment repo new_repo
  pub lasts : OnOk result (BackupPairLasts stanza repo new_repo)

-- ---- why it isn't done, or not whole

-- One of the pairs has no value, or their histories differ; or a count of faults rose, that of the repository or that
-- of the clock.
abbrev pub FollowUpCause : Text → Option Content → Type 0 → Type 0 → FollowUpFault → Type 0
FollowUpCause stanza repo repo_rose clock_rose PairLost = (fault : InfoFault)
    × ExpireCause stanza repo ⊥ (expiries.Info fault)
FollowUpCause stanza repo repo_rose clock_rose (HistoryDiffers at) =
    ExpireCause stanza repo ⊥ (expiries.HistoryDiffers at)
FollowUpCause stanza repo repo_rose clock_rose Repo = repo_rose
FollowUpCause stanza repo repo_rose clock_rose Clock = clock_rose
FollowUpCause stanza repo repo_rose clock_rose NoMemory = Unit {0}

-- of the repository's two states
abbrev pub FollowUpFails : Text → DiskState → DiskState → Type 0 → FollowUpFault → Type 0
FollowUpFails stanza old new clock_rose fault =
    FollowUpCause stanza old.view.now (DiskFailed old new) clock_rose fault

-- the clock failed, or memory ran out
abbrev pub ClockCause : Type 0 → FollowUpFault → Type 0
ClockCause rose Clock = rose
ClockCause rose NoMemory = Unit {0}
ClockCause rose other = ⊥

-- which one a fault of the expiry is
abbrev pub of_after : ExpireFault → FollowUpFault
of_after (expiries.Info fault) = PairLost
of_after (expiries.HistoryDiffers at) = HistoryDiffers at
of_after expiries.Disk = Repo
of_after expiries.NoMemory = NoMemory

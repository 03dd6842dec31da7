-- Why a backup is refused, from what was there before.
use Rattle.std.specs.Prelude.{◌≡◌, ◌⊎◌, ◌≤◌, ◌<◌, ◌+◌, ℕ, List, length, false, Option, None, IfSome, IsSome, string_bytes}
use Rattle.base_devices.specs.Content.{Content}
use Rattle.base_devices.specs.Links.{LinkState}
use Rattle.base_devices.specs.DataFolder.{Nodes, IsTreeListing}
use Rattle.base_model.specs.InfoFiles.{IsBackupText}
use Rattle.base_model.specs.Names.{backup_info}
use Rattle.base_model.specs.Pair.{PairIs}
use Rattle.base_model.specs.Text.{Text}
use Rattle.base_model.specs.Values.{ArchiveInfo, BackupInfo}
use Rattle.repo_names.specs.declared.paths.names.NameFault.{NameFault}
use Rattle.backup_plan.specs.declared.fault.PlanFault.{PlanFault}
use Rattle.backup_plan.specs.declared.fault.PlanFault.TheVariants as plans
use Rattle.backup_plan.specs.Filter.{ListedNode, kept, IsRefused}
use Rattle.backup_record.specs.Faults.{IsMissing}
use Rattle.backup_record.specs.Making.{labels_of}
use Rattle.repo_stanza.specs.declared.control.Control.{Control}
use Rattle.repo_stanza.specs.Causes.{HistoriesDiffer, HasOther}
use Rattle.repo_stanza.specs.Judging.{Validates}
use Rattle.repo_stanza.specs.Pairs.{HavePairs}
use Rattle.backup_make.specs.declared.draft.Draft.{Draft}
use Rattle.backup_make.specs.Draft.{files_with}
use Rattle.backup_make.specs.Faults.{WhereDone}
use Rattle.cmd_backup_common.specs.declared.parts.fault.BackupFault.{BackupFault}
use Rattle.cmd_backup_common.specs.declared.parts.fault.BackupFault.TheVariants.{HistoryDiffers, StanzaMismatch, Running, TooMany, WorkersLost, ClockBehind, LinkFound, NameRefused, ListingUnordered, ControlMissing, Unread, TooLong}
use Rattle.cmd_backup_common.specs.Beginning.{most_backups, server_path, AreLost}
use Rattle.cmd_backup_common.specs.Making.{CannotRead, IsPast}
use Rattle.cmd_backup_common.specs.Seconds.{ListsSecond, NamesSecond}

-- What comes before: the repository and the data folder, the least second that the clock may show, and the links that
-- are used.
pub record Before : Type 0 where
  pub stanza : Text
  pub known : Control
  pub repo : Option Content
  pub nodes : Option Nodes
  pub least : ℕ
  pub used : List LinkState

-- what the folder shows is this
abbrev pub Shows : Before → (List ListedNode → Type 0) → Type 0
Shows b P = IfSome b.nodes (λ f. (seen : List ListedNode) × IsTreeListing f seen × P seen)

-- the folder is refused for this
abbrev pub Refuses : Before → PlanFault → Type 0
Refuses b fault = Shows b (λ seen. IsRefused (kept false seen) fault)

-- f's pairs validate to this list
pub record SettlesTo (stanza : Text) (list : BackupInfo) (f : Content) : Type 0 where
  pub archive : ArchiveInfo
  pub backup : BackupInfo
  pub pairs : HavePairs stanza f archive backup
  pub settles : Validates archive backup list

-- the same for a draft of this kind
abbrev pub OfDraft : (Draft → Type 0) → (Draft → Type 0) → Type 0
OfDraft IsIt P = (d : Draft) × IsIt d × P d

-- f lists this many backups that there is no room for one more
abbrev pub IsFull : Text → Content → Type 0
IsFull stanza f = (list : BackupInfo) × PairIs IsBackupText f (backup_info stanza) list
    × (most_backups ≤ length list.backups)

-- f has a label of this second: that of a listed backup, or of a folder with files
abbrev pub HasSecond : Text → ℕ → Content → Type 0
HasSecond stanza second f =
    ((list : BackupInfo) × PairIs IsBackupText f (backup_info stanza) list × ListsSecond (labels_of list.backups) second)
    ⊎ NamesSecond stanza second f

-- why a backup is refused that is made by a draft of this kind
abbrev pub CauseBy : Before → (Draft → Type 0) → BackupFault → Type 0
CauseBy b IsIt (HistoryDiffers at) = IfSome b.repo (λ f. HistoriesDiffer b.stanza f at)
CauseBy b IsIt (StanzaMismatch kept found) = IfSome b.repo (λ f. HasOther b.stanza b.known f kept found)
CauseBy b IsIt Running = IfSome b.nodes (λ f. IsSome (f server_path))
CauseBy b IsIt (TooMany limit) = ((limit ≡ most_backups) × IfSome b.repo (IsFull b.stanza))
    ⊎ Refuses b (plans.TooMany limit)
CauseBy b IsIt (WorkersLost lost) = AreLost b.used lost
CauseBy b IsIt (ClockBehind latest now) = (now + 10 < latest) × (b.least ≤ now)
    × IfSome b.repo (HasSecond b.stanza latest)
CauseBy b IsIt (LinkFound path) = Refuses b (plans.LinkFound path)
CauseBy b IsIt (NameRefused path) = Shows b
    (λ seen. (fault : NameFault) × IsRefused (kept false seen) (plans.NameRefused path fault))
CauseBy b IsIt ListingUnordered = b.nodes ≡ None
CauseBy b IsIt (ControlMissing path) = Refuses b (plans.ControlMissing path)
    ⊎ OfDraft IsIt (λ d. WhereDone d b.used (λ ends. IsMissing (string_bytes path) (files_with d ends)))
CauseBy b IsIt (Unread path) = OfDraft IsIt (λ d. CannotRead d b.used path)
CauseBy b IsIt (TooLong name limit) = OfDraft IsIt (λ d. IsPast d b.used name limit)

-- why one is refused that no draft is to blame for
abbrev pub TakeCause : Before → BackupFault → Type 0
TakeCause b fault = CauseBy b (λ d. ⊥) fault

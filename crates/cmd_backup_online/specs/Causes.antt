-- Why a running server's backup is refused, from what was there before and what the server reported.
use Rattle.std.specs.Prelude.{◌≡◌, ◌⊎◌, ℕ, List, true, Option, Some, IfSome, String, string_bytes}
use Rattle.std.specs.declared.alloc.Global.{Global}
use Rattle.base_devices.specs.Content.{Content}
use Rattle.base_model.specs.declared.labels.BackupKind.{BackupKind}
use Rattle.base_model.specs.Fields.{at_number}
use Rattle.base_model.specs.Repository.{id_of}
use Rattle.base_model.specs.Values.{FileEntry}
use Rattle.backup_sink.specs.declared.keeper.EndedItem.{EndedItem}
use Rattle.repo_names.specs.declared.paths.names.NameFault.{NameFault}
use Rattle.backup_plan.specs.declared.fault.PlanFault.{PlanFault}
use Rattle.backup_plan.specs.declared.fault.PlanFault.TheVariants as plans
use Rattle.backup_plan.specs.Filter.{kept, files_of, IsRefused, Takes}
use Rattle.backup_make.specs.declared.draft.Draft.{Draft}
use Rattle.backup_make.specs.Draft.{IsDraft, stanza_of, taken_in, folders_in, list_in}
use Rattle.backup_make.specs.Faults.{WhereDone}
use Rattle.backup_make.specs.Online.{Online}
use Rattle.cmd_backup_common.specs.declared.parts.fault.BackupFault.{BackupFault}
use Rattle.cmd_backup_common.specs.declared.parts.fault.BackupFault.TheVariants.{HistoryDiffers, StanzaMismatch, Running, TooMany, WorkersLost, ClockBehind, LinkFound, NameRefused, ListingUnordered, ControlMissing, Unread, TooLong}
use Rattle.cmd_backup_common.specs.Beginning.{most_backups}
use Rattle.cmd_backup_common.specs.Causes.{Before, Shows, SettlesTo, IsFull, TakeCause}
use Rattle.cmd_backup_common.specs.Making.{CannotRead}
use Rattle.cmd_backup_offline.specs.declared.fault.OfflineFault.TheVariants as laters
use Rattle.cmd_backup_offline.specs.declared.order.OfflineOrder.{OfflineOrder}
use Rattle.cmd_backup_offline.specs.Basing.{base_label}
use Rattle.cmd_backup_offline.specs.Causes.{OfflineCause}
use Rattle.cmd_backup_offline.specs.Equal.{CannotDigest}
use Rattle.cmd_backup_online.specs.declared.fault.OnlineBackupFault.{OnlineBackupFault}
use Rattle.cmd_backup_online.specs.declared.fault.OnlineBackupFault.TheVariants.{Take, NotArrived, Ambiguous}
use Rattle.cmd_backup_online.specs.Doing.{Received}
use Rattle.cmd_backup_online.specs.Finishing.{PublishCause, VainCause}
use Rattle.cmd_backup_online.specs.Modelled.{OfTalk, TalkFails, ShowsOnline}

-- What was there before; which kind is asked for; what the server reported; how many steps of others may be waited for,
-- and their count before and after; and what the repository holds at the end.
pub record Asked : Type 0 where
  pub before : Before
  pub kind : BackupKind
  pub received_reply : Received
  pub most : ℕ
  pub turns : ℕ
  pub turned : ℕ
  pub now : Option Content

-- the folder of a running server is refused for this
abbrev pub Refuses : Before → PlanFault → Type 0
Refuses b fault = Shows b (λ seen. IsRefused (kept true seen) fault)

-- a draft of a backup of this kind of a running server's folder, besides those of the stanza
pub record IsRunningDraft (b : Before) (kind : BackupKind) (d : Draft) : Type 0 where
  pub is : IsDraft d
  pub stanza_is : stanza_of d ≡ b.stanza
  pub prior : d.prior ≡ base_label kind (list_in d)
  pub takes : Shows b (λ seen. Takes true seen (taken_in d) (folders_in d))
  pub list : IfSome b.repo (SettlesTo b.stanza (list_in d))
  pub current : at_number (list_in d).current (list_in d).history ≡ Some d.cluster

-- the same for such a draft
abbrev pub OfDraft : Asked → (Draft → Type 0) → Type 0
OfDraft x P = (d : Draft) × IsRunningDraft x.before x.kind d × P d

-- the same for such a draft and of what the server reported
abbrev pub OfKnown : Asked → (Draft → Online → Type 0) → Type 0
OfKnown x P = OfDraft x (λ d. (o : Online) × ShowsOnline x.received_reply.system x.received_reply.pending
    x.received_reply.left o × P d o)

-- the same for a draft whose jobs were done, and of what the server reported
abbrev pub OfDone : Asked → (Draft → Option Online → List (List EndedItem) → Type 0) → Type 0
OfDone x P = OfKnown x (λ d o. WhereDone d x.before.used (λ ends. P d (Some o) ends))

-- a link couldn't read a file of the folder for which a digest was asked
abbrev pub Undigested : Before → String Global → Type 0
Undigested b path = Shows b (λ seen. (old : List FileEntry)
    × CannotDigest b.used old (files_of (kept true seen)) (string_bytes path))

-- why it is refused as a stopped server's backup may be
abbrev pub RunningCause : Asked → BackupFault → Type 0
RunningCause x (HistoryDiffers at) = TakeCause x.before (HistoryDiffers at)
RunningCause x (StanzaMismatch kept found) = TakeCause x.before (StanzaMismatch kept found)
RunningCause x Running = ⊥
RunningCause x (TooMany limit) = ((limit ≡ most_backups) × IfSome x.before.repo (IsFull x.before.stanza))
    ⊎ Refuses x.before (plans.TooMany limit)
RunningCause x (WorkersLost lost) = TakeCause x.before (WorkersLost lost)
RunningCause x (ClockBehind latest now) = TakeCause x.before (ClockBehind latest now)
RunningCause x (LinkFound path) = Refuses x.before (plans.LinkFound path)
RunningCause x (NameRefused path) = Shows x.before
    (λ seen. (fault : NameFault) × IsRefused (kept true seen) (plans.NameRefused path fault))
RunningCause x ListingUnordered = TakeCause x.before ListingUnordered
RunningCause x (ControlMissing path) = Refuses x.before (plans.ControlMissing path)
    ⊎ OfDone x (λ d o ends. PublishCause d o ends (ControlMissing path))
RunningCause x (Unread path) = OfDraft x (λ d. CannotRead d x.before.used path) ⊎ Undigested x.before path
RunningCause x (TooLong name limit) = OfDone x (λ d o ends. PublishCause d o ends (TooLong name limit))

-- the same for an order of this kind
abbrev pub OfKind : BackupKind → (OfflineOrder → Type 0) → Type 0
OfKind kind P = (o : OfflineOrder) × (o.kind ≡ kind) × P o

-- why a running server's backup is refused
abbrev pub OnlineCause : Asked → OnlineBackupFault → Type 0
OnlineCause x (Take (laters.Take fault)) = RunningCause x fault
OnlineCause x (Take (laters.PriorDamaged text main copy)) =
    OfKind x.kind (λ o. OfflineCause x.before o (laters.PriorDamaged text main copy))
OnlineCause x (NotArrived segment waited) =
    OfKnown x (λ d o. VainCause x.before.stanza (id_of d.cluster) o.part x.most x.now x.turns x.turned
    (NotArrived segment waited))
OnlineCause x (Ambiguous first second) =
    OfKnown x (λ d o. VainCause x.before.stanza (id_of d.cluster) o.part x.most x.now x.turns x.turned
    (Ambiguous first second))
OnlineCause x other = OfTalk (TalkFails x.received_reply.system x.received_reply.pending x.received_reply.left) other

-- Why a backup of any kind is refused, from what was there before.
use Rattle.std.specs.Prelude.{◌≡◌, ◌⊎◌, false, List, IfSome, IsSomeAnd, string_bytes}
use Rattle.base_model.specs.Names.{label_text}
use Rattle.base_model.specs.Values.{BackupInfo, FileEntry}
use Rattle.backup_plan.specs.Filter.{kept, files_of, Takes}
use Rattle.backup_make.specs.declared.draft.Draft.{Draft}
use Rattle.backup_make.specs.Draft.{IsDraft, stanza_of, taken_in, folders_in, list_in}
use Rattle.cmd_backup_common.specs.declared.parts.fault.BackupFault.{BackupFault}
use Rattle.cmd_backup_common.specs.declared.parts.fault.BackupFault.TheVariants.{Unread}
use Rattle.cmd_backup_common.specs.Causes.{Before, Shows, SettlesTo, CauseBy}
use Rattle.cmd_backup_offline.specs.declared.fault.OfflineFault.{OfflineFault}
use Rattle.cmd_backup_offline.specs.declared.fault.OfflineFault.TheVariants.{Take, PriorDamaged}
use Rattle.cmd_backup_offline.specs.declared.order.OfflineOrder.{OfflineOrder}
use Rattle.cmd_backup_offline.specs.Basing.{base_label, LacksManifest}
use Rattle.cmd_backup_offline.specs.Equal.{CannotDigest}

-- a draft of a backup of the folder that the order asks for, besides those of the stanza
pub record IsDraftOf (b : Before) (o : OfflineOrder) (d : Draft) : Type 0 where
  pub is : IsDraft d
  pub stanza_is : stanza_of d ≡ b.stanza
  pub prior : d.prior ≡ base_label o.kind (list_in d)
  pub takes : Shows b (λ seen. Takes false seen (taken_in d) (folders_in d))
  pub list : IfSome b.repo (SettlesTo b.stanza (list_in d))

-- a link couldn't read a file of the folder for which a digest was asked
abbrev pub DigestCause : Before → BackupFault → Type 0
DigestCause b (Unread path) = Shows b
    (λ seen. (old : List FileEntry) × CannotDigest b.used old (files_of (kept false seen)) (string_bytes path))
DigestCause b other = ⊥

-- why a backup is refused: as a full one is, for a file that couldn't be digested, or since the manifest of the listed
-- backup on which it is based is not there, or can't be read
abbrev pub OfflineCause : Before → OfflineOrder → OfflineFault → Type 0
OfflineCause b o (Take fault) = CauseBy b (IsDraftOf b o) fault ⊎ DigestCause b fault
OfflineCause b o (PriorDamaged text main copy) = IfSome b.repo (λ f. (list : BackupInfo) × SettlesTo b.stanza list f
    × IsSomeAnd (base_label o.kind list)
    (λ l. (string_bytes text ≡ label_text l) × LacksManifest b.stanza l main copy f))

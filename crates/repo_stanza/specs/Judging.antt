-- What the values of a stanza's two pairs state, and what is kept of them.
use Rattle.std.specs.Prelude.{◌≡◌, ◌≢◌, ◌≤◌, ℕ, List, [], ◌∷◌, length, IfSome, IsSomeAnd, Option, Some, None, String}
use Rattle.std.specs.declared.alloc.Global.{Global}
use Rattle.base_devices.specs.Content.{Content}
use Rattle.base_devices.specs.States.{DiskState}
use Rattle.base_model.specs.declared.clusters.ClusterId.{ClusterId}
use Rattle.base_model.specs.Text.{Text, In}
use Rattle.base_model.specs.Pair.{PairIs}
use Rattle.base_model.specs.declared.clusters.ArchiveInfo as rust_archive_info
use Rattle.base_model.specs.declared.clusters.BackupInfo as rust_backup_info
use Rattle.base_model.specs.Values.{ArchiveInfo, BackupInfo, Entry, archive_info_of, backup_info_of}
use Rattle.repo_info.specs.declared.fault.MemberFault.TheVariants.{Absent}
use Rattle.repo_stanza.specs.declared.control.Control.{Control}
use Rattle.repo_stanza.specs.declared.pair_rules.PairValues.{PairValues}
use Rattle.repo_stanza.specs.declared.fault.StanzaFault.{StanzaFault}
use Rattle.repo_stanza.specs.declared.fault.StanzaFault.TheVariants.{InfoDamaged, HistoryDiffers, StanzaMismatch, ArchiveLost}
use Rattle.repo_stanza.specs.HealingPair.{backup_text}
use Rattle.repo_stanza.specs.Pairs.{identity_known, identity_kept, identities, DifferFirst, HasPending, AreTogether, IsCurrent, HavePairs}

-- w is b, or b without a cluster that is still to come
pub data Validates (a : ArchiveInfo) (b w : BackupInfo) : Type 0 where
  As : a.history ≡ identities b → w ≡ b → Validates a b w
  Without : (p : HasPending a b) → w ≡ record { current = length p.earlier; history = p.earlier; backups = b.backups }
      → Validates a b w

-- the fault reports the first number at which the histories differ
pub record ShowsDifference (a : ArchiveInfo) (b : BackupInfo) (e : StanzaFault) : Type 0 where
  pub at : ℕ
  pub differ : DifferFirst at a.history (identities b)
  pub settled : ¬ HasPending a b
  pub is : e ≡ HistoryDiffers at

-- the current cluster is the one that is given
pub record IsOf (known : Control) (a : ArchiveInfo) : Type 0 where
  pub current : ClusterId
  pub is_current : IsCurrent a current
  pub same : identity_kept current ≡ identity_known known

-- the fault reports that it is another
pub record ShowsOther (known : Control) (a : ArchiveInfo) (e : StanzaFault) : Type 0 where
  pub current : ClusterId
  pub is_current : IsCurrent a current
  pub apart : identity_kept current ≢ identity_known known
  pub is : e ≡ StanzaMismatch (identity_kept current) (identity_known known)

-- the fault reports the first backup that is listed
pub record ShowsLost (b : BackupInfo) (e : StanzaFault) : Type 0 where
  pub first : Entry
  pub others : List Entry
  pub listed : b.backups ≡ first ∷ others
  pub is : e ≡ ArchiveLost first.label

-- the values don't fit, or are another cluster's
pub data Unfit (known : Control) (a : ArchiveInfo) (b : BackupInfo) (e : StanzaFault) : Type 0 where
  Differing : ShowsDifference a b e → Unfit known a b e
  Other : AreTogether a b → ShowsOther known a e → Unfit known a b e

-- f's pairs are of a stanza of the cluster that is given, and these values are kept of them
pub record KeepsStanza (stanza : Text) (known : Control) (f : Content) (a : ArchiveInfo) (w : BackupInfo) : Type 0 where
  pub backup : BackupInfo
  pub pairs : HavePairs stanza f a backup
  pub settles : Validates a backup w
  pub of : IsOf known a

-- f's two pairs have values: that of the archive pair is this one, and the other's validates to this list
pub record HasList (stanza : Text) (f : Content) (archive : ArchiveInfo) (list : BackupInfo) : Type 0 where
  pub backup : BackupInfo
  pub pairs : HavePairs stanza f archive backup
  pub settles : Validates archive backup list

-- where its contents are known, the disk's pairs have such values
abbrev pub HoldsList : Text → ArchiveInfo → BackupInfo → DiskState → Type 0
HoldsList stanza archive list d = IfSome d.view.now (λ f. HasList stanza f archive list)

-- why two values, or the lack of one, are refused; the name is that of the backup pair's main member
pub data Refuses (known : Control) (archive : Option rust_archive_info.ArchiveInfo)
    (backup : Option rust_backup_info.BackupInfo) (name : String Global) (e : StanzaFault) : Type 0 where
  Lost : archive ≡ None → (b : rust_backup_info.BackupInfo) → backup ≡ Some b → ShowsLost (backup_info_of b) e
      → Refuses known archive backup name e
  Alone : (a : rust_archive_info.ArchiveInfo) → archive ≡ Some a → backup ≡ None → e ≡ InfoDamaged name Absent Absent
      → Refuses known archive backup name e
  NotOf : (a : rust_archive_info.ArchiveInfo) (b : rust_backup_info.BackupInfo) → archive ≡ Some a → backup ≡ Some b
      → Unfit known (archive_info_of a) (backup_info_of b) e → Refuses known archive backup name e

-- ---- what the code's values represent

-- no backup of the list is of the cluster of this number
abbrev pub ListsNone : BackupInfo → ℕ → Type 0
ListsNone b n = (e : Entry) → In e b.backups → e.db ≢ n

abbrev pub IsValidated : rust_archive_info.ArchiveInfo → rust_backup_info.BackupInfo → rust_backup_info.BackupInfo
    → Type 0
IsValidated a b w = Validates (archive_info_of a) (backup_info_of b) (backup_info_of w)

-- the second one's text is not longer
abbrev pub IsNoLonger : rust_backup_info.BackupInfo → rust_backup_info.BackupInfo → Type 0
IsNoLonger b w = length (backup_text (backup_info_of w)) ≤ length (backup_text (backup_info_of b))

-- there is no archive pair, and a backup pair lists nothing
abbrev pub StateNothing : Option rust_archive_info.ArchiveInfo → Option rust_backup_info.BackupInfo → Type 0
StateNothing archive backup = (archive ≡ None) × IfSome backup (λ b. (backup_info_of b).backups ≡ [])

-- these values are kept of the two, which are of the cluster that is given
abbrev pub KeepsValues : Control → Option rust_archive_info.ArchiveInfo → Option rust_backup_info.BackupInfo
    → PairValues → Type 0
KeepsValues known archive backup k = (archive ≡ Some k.archive)
    × IsSomeAnd backup (λ b. Validates (archive_info_of k.archive) (backup_info_of b) (backup_info_of k.backup))
    × IsOf known (archive_info_of k.archive)

-- they are kept of what the disk holds
abbrev pub AreKept : Text → Control → DiskState → PairValues → Type 0
AreKept stanza known d k = IfSome d.view.now
    (λ f. KeepsStanza stanza known f (archive_info_of k.archive) (backup_info_of k.backup))

-- the pair of this name has this value
abbrev pub PairHolds : {V : Type 0} → (V → Text → Type 0) → Text → DiskState → V → Type 0
PairHolds IsText name d v = IfSome d.view.now (λ f. PairIs IsText f name v)

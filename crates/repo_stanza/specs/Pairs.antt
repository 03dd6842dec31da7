-- The two pairs of a stanza, and when they fit together.
use Rattle.std.specs.Prelude.{◌≡◌, ◌≢◌, ◌⊎◌, ℕ, ◌≤◌, ◌<◌, List, [], ◌∷◌, ◌++◌, map, Some, IsSome}
use Rattle.base_devices.specs.Content.{Content}
use Rattle.base_model.specs.declared.clusters.ClusterId.{ClusterId}
use Rattle.base_model.specs.declared.clusters.Cluster.{Cluster}
use Rattle.base_model.specs.Text.{Text, In}
use Rattle.base_model.specs.Fields.{at_number}
use Rattle.base_model.specs.Names.{archive_info, backup_info, copy_of}
use Rattle.base_model.specs.Values.{ArchiveInfo, BackupInfo, Entry}
use Rattle.base_model.specs.InfoFiles.{IsArchiveText, IsBackupText}
use Rattle.base_model.specs.Pair.{PairIs, PairAbsent}
use Rattle.base_model.specs.Repository.{Stanza, current_number, identity_of}
use Rattle.repo_stanza.specs.declared.control.Control.{Control}
use Rattle.repo_stanza.specs.declared.fault.Identity.{Identity}

-- ---- clusters by their identifier and version

-- the system and version that the control file states, and those that a list keeps
abbrev pub identity_known : Control → Identity
identity_known known = record { system = known.system; version = known.version }

abbrev pub identity_kept : ClusterId → Identity
identity_kept c = record { system = c.system; version = c.version }

-- the history of the backup pair as the archive pair would state it
abbrev pub identities : BackupInfo → List ClusterId
identities v = map identity_of v.history

-- the histories differ at this number, and at none before it
pub record DifferFirst (at : ℕ) (xs ys : List ClusterId) : Type 0 where
  pub counted : 1 ≤ at
  pub earlier : (n : ℕ) → 1 ≤ n → n < at → at_number n xs ≡ at_number n ys
  pub here : at_number at xs ≢ at_number at ys

-- The backup pair states one cluster more than the archive pair, at its end: that is its current one, and no listed
-- backup's.
pub record HasPending (a : ArchiveInfo) (b : BackupInfo) : Type 0 where
  pub earlier : List Cluster
  pub last : Cluster
  pub whole : b.history ≡ earlier ++ last ∷ []
  pub same : a.history ≡ map identity_of earlier
  pub current : b.current ≡ last.id
  pub unused : (e : Entry) → In e b.backups → e.db ≢ last.id

-- the two state one history, except for a cluster that is still to come
abbrev pub AreTogether : ArchiveInfo → BackupInfo → Type 0
AreTogether a b = (a.history ≡ identities b) ⊎ HasPending a b

-- the value's current cluster
abbrev pub IsCurrent : ArchiveInfo → ClusterId → Type 0
IsCurrent a c = at_number a.current a.history ≡ Some c

-- ---- the pairs of a disk

-- f has no archive pair, and a backup pair that lists nothing, or none
pub record LacksStanza (stanza : Text) (f : Content) : Type 0 where
  pub archive : PairAbsent f (archive_info stanza)
  pub backup : PairAbsent f (backup_info stanza)
      ⊎ ((b : BackupInfo) × PairIs IsBackupText f (backup_info stanza) b × (b.backups ≡ []))

-- f's two pairs have these values
pub record HavePairs (stanza : Text) (f : Content) (a : ArchiveInfo) (b : BackupInfo) : Type 0 where
  pub archive : PairIs IsArchiveText f (archive_info stanza) a
  pub backup : PairIs IsBackupText f (backup_info stanza) b

-- f's two pairs fit together, and their current cluster is the one that is given
pub record HasStanzaOf (stanza : Text) (known : Control) (f : Content) : Type 0 where
  pub archive : ArchiveInfo
  pub backup : BackupInfo
  pub pairs : HavePairs stanza f archive backup
  pub together : AreTogether archive backup
  pub current : ClusterId
  pub is_current : IsCurrent archive current
  pub same : identity_kept current ≡ identity_known known

-- the stanza's current cluster is the one that is given
pub record IsStanzaOf (known : Control) (s : Stanza) : Type 0 where
  pub current : Cluster
  pub is_current : at_number (current_number s) s.history ≡ Some current
  pub same : identity_kept (identity_of current) ≡ identity_known known

-- the two members of the pair are there, and have the same text
abbrev pub AgreeAt : Text → Content → Type 0
AgreeAt name f = (f (copy_of name) ≡ f name) × IsSome (f name)

-- the members of both pairs agree
pub record PairsAgree (stanza : Text) (f : Content) : Type 0 where
  pub archive : AgreeAt (archive_info stanza) f
  pub backup : AgreeAt (backup_info stanza) f

-- Which backup a manifest describes, made of what workers read (pgBackRest command reference, "Backup").
use Rattle.std.specs.Prelude.{◌≡◌, ◌<◌, ◌↔◌, ℕ, List, [], length, map, sum_by, Option, Some, None, IfSome}
use Rattle.std.specs.FinMap.{get, keys}
use Rattle.sha1.specs.Sha1.{sha1}
use Rattle.base_devices.specs.Content.{Name, Content}
use Rattle.base_model.specs.declared.labels.Label.{Label}
use Rattle.base_model.specs.Text.{Text, In}
use Rattle.base_model.specs.Names.{manifest_name}
use Rattle.base_model.specs.Values.{BackupInfo, FileEntry, Manifest}
use Rattle.base_model.specs.ManifestText.{IsManifestText}
use Rattle.base_model.specs.Pair.{PairIs}
use Rattle.base_model.specs.Place.{place, LiesAt}
use Rattle.base_model.specs.Repository.{File, Backup, Stanza}
use Rattle.base_model.specs.Represents.{HasStanza, IsAncestor, IsListed, backup_value}
use Rattle.base_model.specs.Steps.{changed, AddBackup}
use Rattle.base_model.specs.Log.{IsPlaceOf}
use Rattle.worker_protocol.specs.PartSinkState.{JobItems}
use Rattle.backup_record.specs.Item.{IsItem}

-- the backup's file at the entry's path has these bytes, and the entry's time
pub record HasFile (b : Backup) (e : FileEntry) (bytes : Text) : Type 0 where
  pub file : File
  pub is : get b.files e.path ≡ Some file
  pub bytes_are : file.bytes ≡ bytes
  pub time : e.time ≡ file.time

-- the manifest of the prior backup that was read
pub record PriorRead : Type 0 where
  pub label : Label
  pub manifest : Manifest

-- f has the stanza, and this manifest for the prior backup, where there is one
pub record HasPrior (stanza : Text) (s : Stanza) (prior : Option PriorRead) (f : Content) : Type 0 where
  pub has : HasStanza stanza f s
  pub reads : IfSome prior (λ p. PairIs IsManifestText f (manifest_name stanza p.label) p.manifest)

-- The bytes of an entry that lie in the folder of another label, where the stanza is with the prior's manifest that was
-- read.
pub record IsLeft (stanza : Text) (s : Stanza) (prior : Option PriorRead) (label : Label) (e : FileEntry)
    (bytes : Text) : Type 0 where
  pub size : e.size ≡ length bytes
  pub sum : e.sum ≡ sha1 bytes
  pub place_is : (f : Content) → HasPrior stanza s prior f → IsPlaceOf stanza f (place stanza label e).0
  pub lies : (f : Content) → HasPrior stanza s prior f → LiesAt f (place stanza label e) bytes

-- what the manifest states besides its files is the backup's
pub record IsHead (s : Stanza) (b : Backup) (m : Manifest) : Type 0 where
  pub label : m.label ≡ b.entry.label
  pub kind : m.kind ≡ b.entry.kind
  pub prior : m.prior ≡ b.entry.prior
  pub start : m.start ≡ b.entry.start
  pub stop : m.stop ≡ b.entry.stop
  pub cluster : In m.cluster s.history × (m.cluster.id ≡ b.entry.db)
  pub wal : m.wal ≡ b.wal
  pub choices : m.choices ≡ b.choices
  pub folders : m.folders ≡ b.folders

-- the bytes that a backup has itself
abbrev pub own_size : FileEntry → ℕ
own_size e = by e.reference
  where
    by : Option Label → ℕ
    by None = e.size
    by (Some l) = 0

-- The manifest is that of the backup. A file with bytes in the backup's own folder is an item that was received, with
-- these bytes.
pub record IsRecord (stanza : Text) (names : List Name) (kept : List JobItems) (s : Stanza) (prior : Option PriorRead)
    (b : Backup) (m : Manifest) : Type 0 where
  pub head : IsHead s b m
  pub paths : map (λ e. e.path) m.files ≡ keys b.files
  pub references : (l : Label) → In l b.entry.references ↔ ((e : FileEntry) × In e m.files × (e.reference ≡ Some l))
  pub ancestors : (l : Label) → In l b.entry.references → IsAncestor s.backups l b × IsListed s.backups l
  pub received : (e : FileEntry) → In e m.files → e.reference ≡ None → 0 < e.size
      → (bytes : Text) × IsItem stanza b.entry.label names kept e bytes × HasFile b e bytes
  pub empty : (e : FileEntry) → In e m.files → e.size ≡ 0 → HasFile b e [] × (e.sum ≡ sha1 [])
  pub left : (e : FileEntry) (l : Label) → In e m.files → e.reference ≡ Some l → 0 < e.size
      → (bytes : Text) × HasFile b e bytes × IsLeft stanza s prior b.entry.label e bytes
  pub size : b.entry.size ≡ sum_by (λ e. e.size) m.files
  pub stored : b.entry.stored ≡ sum_by own_size m.files

-- the value is this stanza's list, without a cluster that is still to come
abbrev pub IsListOf : Stanza → BackupInfo → Type 0
IsListOf s v = v ≡ backup_value s None

-- The backup was made of what was received: the manifest is its, and the list is the stanza's with it.
pub record Adds (stanza : Text) (names : List Name) (kept : List JobItems) (prior : Option PriorRead) (m : Manifest)
    (list : BackupInfo) (s : Stanza) (b : Backup) : Type 0 where
  pub is : IsRecord stanza names kept s prior b m
  pub list_is : list ≡ backup_value (changed (AddBackup b) s) None

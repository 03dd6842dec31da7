-- The manifest of a backup, and the stanza's list with it (pgBackRest user guide, "Backup").
use Rattle.std.specs.Prelude.{◌≡◌, ◌↔◌, ◌⊎◌, ℕ, true, List, [], ◌∷◌, ◌++◌, map, sum_by, Option, Some, option_map}
use Rattle.base_devices.specs.Order.{are_in_order}
use Rattle.base_model.specs.declared.labels.Label.{Label}
use Rattle.base_model.specs.declared.wal.WalPart.{WalPart}
use Rattle.base_model.specs.Text.{Text, Map, In}
use Rattle.base_model.specs.Names.{label_text}
use Rattle.base_model.specs.InfoFiles.{label_kind}
use Rattle.base_model.specs.Values.{Entry, BackupInfo, FileEntry, Manifest}
use Rattle.base_model.specs.Repository.{File, Backup}
use Rattle.backup_record.specs.declared.manifest_record.Head.{Head}
use Rattle.backup_record.specs.Record.{own_size}

-- the manifest of these files and folders
abbrev pub manifest_with : Head → List FileEntry → List Text → Manifest
manifest_with h files folders = record {
  label = h.label;
  kind = label_kind h.label;
  prior = h.prior;
  start = h.start;
  stop = h.stop;
  cluster = h.cluster;
  wal = h.wal;
  choices = h.choices;
  files = files;
  folders = folders;
}

-- how many bytes all files have, and how many of them lie in the backup's own folder
abbrev pub size_of : List FileEntry → ℕ
size_of files = sum_by (λ (e : FileEntry). e.size) files

abbrev pub stored_of : List FileEntry → ℕ
stored_of files = sum_by own_size files

-- the manifest's backup, as the list has it
abbrev pub entry_with : Manifest → List Label → Entry
entry_with m references = record {
  label = m.label;
  kind = m.kind;
  prior = m.prior;
  references = references;
  db = m.cluster.id;
  span = option_map (λ (w : WalPart). w.span) m.wal;
  start = m.start;
  stop = m.stop;
  size = size_of m.files;
  stored = stored_of m.files;
}

-- the manifest's backup, which refers to these labels and holds these files
abbrev pub backup_with : Manifest → List Label → Map File → Backup
backup_with m references files = record {
  entry = entry_with m references;
  wal = m.wal;
  choices = m.choices;
  folders = m.folders;
  files = files;
}

-- the labels of a list
abbrev pub labels_of : List Entry → List Label
labels_of backups = map (λ (e : Entry). e.label) backups

-- a file's bytes lie in the folder of this label
abbrev pub RefersTo : List FileEntry → Label → Type 0
RefersTo files l = (e : FileEntry) × In e files × (e.reference ≡ Some l)

-- these labels are those from before, and that of this reference, where there is one
abbrev pub GainsReference : Option Label → List Label → List Label → Type 0
GainsReference reference old new = (l : Label) → In l new ↔ (In l old ⊎ (reference ≡ Some l))

-- of these labels, those of which the list has a backup
abbrev pub AreThoseListed : List Entry → List Label → List Label → Type 0
AreThoseListed backups labels found = (l : Label) → In l found ↔ (In l (labels_of backups) × In l labels)

-- they are in byte order, where the labels of the list are
abbrev pub KeepListOrder : List Entry → List Label → Type 0
KeepListOrder backups labels = are_in_order (map label_text (labels_of backups)) ≡ true
    → are_in_order (map label_text labels) ≡ true

-- these are the listed labels that files refer to, in the order of the list
pub record AreReferences (backups : List Entry) (files : List FileEntry) (references : List Label) : Type 0 where
  pub each : (l : Label) → In l references ↔ (In l (labels_of backups) × RefersTo files l)
  pub order : KeepListOrder backups references

-- one backup more, as the last
abbrev pub list_with : Entry → BackupInfo → BackupInfo
list_with e v = record { current = v.current; history = v.history; backups = v.backups ++ e ∷ [] }

-- the list is that from before with the manifest's backup
pub record IsListWith (before : BackupInfo) (m : Manifest) (list : BackupInfo) : Type 0 where
  pub references : List Label
  pub are : AreReferences before.backups m.files references
  pub is : list ≡ list_with (entry_with m references) before

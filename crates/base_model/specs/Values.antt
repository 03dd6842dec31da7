-- The values of the three kinds of info text, as the repository's theorems see them: texts as lists of bytes.
use Rattle.std.specs.Prelude.{ℕ, List, map, Option, string_bytes}
use Rattle.base_model.specs.declared.labels.Label.{Label}
use Rattle.base_model.specs.declared.labels.BackupKind.{BackupKind}
use Rattle.base_model.specs.declared.labels.Choices.{Choices}
use Rattle.base_model.specs.declared.labels.Entry as rust_entry
use Rattle.base_model.specs.declared.clusters.ClusterId.{ClusterId}
use Rattle.base_model.specs.declared.clusters.Cluster.{Cluster}
use Rattle.base_model.specs.declared.clusters.ArchiveInfo as rust_archive_info
use Rattle.base_model.specs.declared.clusters.BackupInfo as rust_backup_info
use Rattle.base_model.specs.declared.files.Bundled.{Bundled}
use Rattle.base_model.specs.declared.files.FileEntry as rust_file_entry
use Rattle.base_model.specs.declared.files.Manifest as rust_manifest
use Rattle.base_model.specs.declared.wal.Span.{Span}
use Rattle.base_model.specs.declared.wal.WalPart.{WalPart}
use Rattle.base_model.specs.Text.{Text}

-- the value of `archive.info`: the clusters of the history, and the number of the current one
pub record ArchiveInfo : Type 0 where
  pub current : ℕ
  pub history : List ClusterId

-- a backup as `backup.info` lists it
pub record Entry : Type 0 where
  pub label : Label
  pub kind : BackupKind
  pub prior : Option Label
  pub references : List Label
  pub db : ℕ
  pub span : Option Span
  pub start : ℕ
  pub stop : ℕ
  pub size : ℕ
  pub stored : ℕ

-- the value of `backup.info`
pub record BackupInfo : Type 0 where
  pub current : ℕ
  pub history : List Cluster
  pub backups : List Entry

-- a file of a manifest: its size and time, its sum of twenty bytes, and where its bytes lie
pub record FileEntry : Type 0 where
  pub path : Text
  pub size : ℕ
  pub time : ℕ
  pub sum : Text
  pub reference : Option Label
  pub bundle : Option Bundled

-- the value of a manifest
pub record Manifest : Type 0 where
  pub label : Label
  pub kind : BackupKind
  pub prior : Option Label
  pub start : ℕ
  pub stop : ℕ
  pub cluster : Cluster
  pub wal : Option WalPart
  pub choices : Choices
  pub files : List FileEntry
  pub folders : List Text

-- ---- from the program's values to these

-- what the values of the code represent
abbrev pub archive_info_of : rust_archive_info.ArchiveInfo → ArchiveInfo
archive_info_of v = record { current = v.current; history = v.history.items }

abbrev pub entry_of : rust_entry.Entry → Entry
entry_of e = record {
  label = e.label;
  kind = e.kind;
  prior = e.prior;
  references = e.references.items;
  db = e.db;
  span = e.span;
  start = e.start;
  stop = e.stop;
  size = e.size;
  stored = e.stored;
}

abbrev pub backup_info_of : rust_backup_info.BackupInfo → BackupInfo
backup_info_of v = record { current = v.current; history = v.history.items; backups = map entry_of v.backups.items }

abbrev pub file_entry_of : rust_file_entry.FileEntry → FileEntry
file_entry_of e = record {
  path = string_bytes e.path;
  size = e.size;
  time = e.time;
  sum = e.sum.0;
  reference = e.reference;
  bundle = e.bundle;
}

abbrev pub manifest_of : rust_manifest.Manifest → Manifest
manifest_of m = record {
  label = m.label;
  kind = m.kind;
  prior = m.prior;
  start = m.start;
  stop = m.stop;
  cluster = m.cluster;
  wal = m.wal;
  choices = m.choices;
  files = map file_entry_of m.files.items;
  folders = map string_bytes m.folders.items;
}

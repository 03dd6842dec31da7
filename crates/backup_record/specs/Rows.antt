-- What is known of an entry of the manifest and its bytes. Own.
use Rattle.std.specs.Prelude.{◌≡◌, ◌<◌, List, length, Some, None, unwrap_or}
use Rattle.sha1.specs.Sha1.{sha1}
use Rattle.base_devices.specs.Content.{Name}
use Rattle.base_model.specs.declared.labels.Label.{Label}
use Rattle.base_model.specs.Text.{Text, Map, In}
use Rattle.base_model.specs.Values.{FileEntry}
use Rattle.base_model.specs.Repository.{File}
use Rattle.worker_protocol.specs.PartSinkState.{JobItems}
use Rattle.backup_record.specs.Entries.{BackupRun, prior_bytes}
use Rattle.backup_record.specs.Item.{IsItem}

-- the entry is that of a file of the prior backup, and refers to the backup that has its bytes
pub record IsPriorFile (w : BackupRun) (files : Map File) (e : FileEntry) (l : Label) (bytes : Text) : Type 0 where
  pub entry : FileEntry
  pub of_it : In entry w.old
  pub path : e.path ≡ entry.path
  pub size : e.size ≡ entry.size
  pub sum : e.sum ≡ entry.sum
  pub bundle : e.bundle ≡ entry.bundle
  pub holder : l ≡ unwrap_or entry.reference w.prior
  pub some : 0 < e.size
  pub bytes_are : bytes ≡ prior_bytes files entry.path

-- The entry's bytes are those that were received, or those of the prior backup's file.
pub record IsRow (stanza : Text) (label : Label) (names : List Name) (w : BackupRun) (files : Map File) (kept : List
    JobItems)
    (e : FileEntry) (bytes : Text) : Type 0 where
  pub size : e.reference ≡ None → e.size ≡ length bytes
  pub sum : e.reference ≡ None → e.sum ≡ sha1 bytes
  pub received : e.reference ≡ None → 0 < e.size → IsItem stanza label names kept e bytes
  pub left : (l : Label) → e.reference ≡ Some l → IsPriorFile w files e l bytes

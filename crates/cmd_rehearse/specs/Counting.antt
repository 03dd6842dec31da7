-- How many files and bytes a backup has, and what the last backup of a repository says about them. Own.
use Rattle.std.specs.Prelude.{◌≡◌, ◌&&◌, nat_lt, Bool, true, List, filter, length, is_none, Option, Some, IfSome}
use Rattle.base_devices.specs.Content.{Content}
use Rattle.base_model.specs.declared.labels.BackupKind.TheVariants.{Incr}
use Rattle.base_model.specs.declared.labels.Label.{Label}
use Rattle.base_model.specs.InfoFiles.{IsBackupText}
use Rattle.base_model.specs.ManifestText.{IsManifestText}
use Rattle.base_model.specs.Names.{backup_info, manifest_name}
use Rattle.base_model.specs.Pair.{PairIs}
use Rattle.base_model.specs.Text.{Text}
use Rattle.base_model.specs.Values.{BackupInfo, FileEntry, Manifest}
use Rattle.backup_record.specs.Making.{size_of}
use Rattle.cmd_backup_offline.specs.Basing.{base_label}
use Rattle.cmd_rehearse.specs.declared.backup_totals.Amount.{Amount}
use Rattle.cmd_rehearse.specs.declared.backup_totals.Counted.{Counted}
use Rattle.cmd_rehearse.specs.declared.backup_totals.Counted.TheVariants.{All, Own, Filled}

-- all files, or those that refer to no other backup, or those of them that have bytes
abbrev pub is_counted : Counted → FileEntry → Bool
is_counted All e = true
is_counted Own e = is_none e.reference
is_counted Filled e = is_none e.reference && nat_lt 0 e.size

abbrev pub amount_of : Counted → List FileEntry → Amount
amount_of counted files = record {
  files = length (filter (is_counted counted) files);
  bytes = size_of (filter (is_counted counted) files);
}

-- f lists a backup on which a further one would be based, the last of its cluster, and has its manifest, of which this
-- holds
pub record HasLast (stanza : Text) (P : Manifest → Type 0) (f : Content) : Type 0 where
  pub list : BackupInfo
  pub read : PairIs IsBackupText f (backup_info stanza) list
  pub label : Label
  pub last : base_label Incr list ≡ Some label
  pub manifest : Manifest
  pub of_it : PairIs IsManifestText f (manifest_name stanza label) manifest
  pub holds : P manifest

-- this many of its files are counted
abbrev pub ShowsLast : Text → Counted → Option Content → Amount → Type 0
ShowsLast stanza counted now amount = IfSome now (HasLast stanza (λ m. amount ≡ amount_of counted m.files))

-- What a backup of a running server has besides what its workers read (PostgreSQL manual, "Making a Base Backup Using
-- the Low Level API").
use Rattle.std.specs.Prelude.{◌<◌, ◌^◌, ℕ, length, codes, Option, None, option_map, string_bytes}
use Rattle.sha1.specs.Sha1.{sha1}
use Rattle.base_model.specs.declared.wal.WalPart.{WalPart}
use Rattle.base_model.specs.Text.{Text}
use Rattle.base_model.specs.ManifestText.{IsWalPart}
use Rattle.base_model.specs.Values.{FileEntry}
use Rattle.backup_make.specs.declared.online.Online as rust

-- its part of the log, and what its label file holds
pub record Online : Type 0 where
  pub part : WalPart
  pub label_file : Text

abbrev pub online_of : rust.Online → Online
online_of o = record { part = o.wal; label_file = string_bytes o.label_file }

-- the part of the log is one, and the label file is short: a message of a server has at most 16 MiB
pub record IsOnline (o : Online) : Type 0 where
  pub part_is : IsWalPart o.part
  pub short : length o.label_file < 2 ^ 32

abbrev pub part_in : Option Online → Option WalPart
part_in o = option_map (λ (x : Online). x.part) o

-- the path of the label file
abbrev pub label_path : Text
label_path = codes "backup_label"

-- the file in the manifest, where the backup stopped in this second
abbrev pub label_entry : Text → ℕ → FileEntry
label_entry text stop = record {
  path = label_path;
  size = length text;
  time = stop;
  sum = sha1 text;
  reference = None;
  bundle = None;
}

-- A file of the data folder's log, of which the first bytes were read.
use Rattle.std.specs.Prelude.{◌≡◌, ◌⊎◌, ◌≤◌, ◌<◌, ℕ, length, Option, Some, None, IfSome, IsSome, IsSomeAnd}
use Rattle.base_devices.specs.Content.{Name}
use Rattle.base_devices.specs.DataFolder.{Nodes, file_bytes, known_path}
use Rattle.base_model.specs.Text.{Text}
use Rattle.repo_names.specs.Header.{BeginsWith}
use Rattle.cmd_archive_push.specs.declared.log_file.LogFile.{LogFile}
use Rattle.cmd_archive_push.specs.declared.log_file.Measured.{Measured}
use Rattle.cmd_archive_push.specs.declared.log_file.Measured.TheVariants.{File, Absent, Long}

-- the bytes of a file, where the data folder reports them and has it
abbrev pub known_file : Option Nodes → Name → Option Text
known_file None path = None
known_file (Some f) path = file_bytes (f path)

-- the file lies at this path, and these are its first bytes and their number: 40 of them at least, or all
pub record IsOpened (nodes : Option Nodes) (path : Name) (log : LogFile) : Type 0 where
  pub lies : known_path log.what ≡ path
  pub there : IfSome nodes (λ f. IsSome (file_bytes (f path)))
  pub begins : IfSome (known_file nodes path) (BeginsWith log.prefix.items log.length)
  pub within : length log.prefix.items ≤ log.length
  pub enough : (40 ≤ length log.prefix.items) ⊎ (length log.prefix.items ≡ log.length)

-- what is reported about the file at this path
abbrev pub IsMeasured : Option Nodes → Name → ℕ → Measured → Type 0
IsMeasured nodes path limit (File log) = IsOpened nodes path log
IsMeasured nodes path limit Absent = IfSome nodes (λ f. file_bytes (f path) ≡ None)
IsMeasured nodes path limit Long = IfSome nodes (λ f. IsSomeAnd (file_bytes (f path)) (λ b. limit < length b))

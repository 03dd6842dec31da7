use Rattle.std.proofs.Common.{◌≡◌, map, drop}
use Rattle.std.specs.Prelude.{max}
use Rattle.base_model.specs.Values.{entry_of}
use Rattle.repo_info.specs.BackupForm.{highest}
use Rattle.repo_info.proofs.backup_reader.highest.Given as goal

-- the highest of all is the highest so far or that of those to come
abbrev pub invariant-loop-e : goal.invariant-loop-e
invariant-loop-e l = highest (map entry_of l.backups) ≡ max l.number (highest (map entry_of (drop l.e-index l.backups)))

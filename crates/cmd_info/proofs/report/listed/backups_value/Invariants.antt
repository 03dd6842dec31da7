use Rattle.std.proofs.Common.{◌≡◌, map}
use Rattle.serde_json.specs.View.{view}
use Rattle.repo_ini.specs.Parts.{key_of}
use Rattle.cmd_info.specs.Labelled.{labelled_data}
use Rattle.cmd_info.proofs.report.listed.backups_value.Given as goal

-- the values that are there are those of the keys so far
abbrev pub invariant-loop-label : goal.invariant-loop-label
invariant-loop-label l = map view l.backups.items ≡ map labelled_data (map key_of l.yielded)

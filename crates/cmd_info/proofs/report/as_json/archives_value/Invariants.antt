use Rattle.std.proofs.Common.{◌≡◌, ◌++◌, map, drop}
use Rattle.serde_json.specs.View.{view}
use Rattle.cmd_info.specs.ReportData.{archive_data}
use Rattle.cmd_info.proofs.report.as_json.archives_value.Given as goal

-- the values that are there and those to come are the whole
abbrev pub invariant-loop-cluster : goal.invariant-loop-cluster
invariant-loop-cluster l = map view l.archives.items ++ map (archive_data l.archived) (drop l.cluster-index l.history) ≡ map (archive_data l.archived) l.history

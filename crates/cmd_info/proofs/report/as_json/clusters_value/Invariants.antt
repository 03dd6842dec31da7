use Rattle.std.proofs.Common.{◌≡◌, ◌++◌, map, drop}
use Rattle.serde_json.specs.View.{view}
use Rattle.cmd_info.specs.ReportData.{cluster_data}
use Rattle.cmd_info.proofs.report.as_json.clusters_value.Given as goal

-- the values that are there and those to come are the whole
abbrev pub invariant-loop-c : goal.invariant-loop-c
invariant-loop-c l = map view l.clusters.items ++ map cluster_data (drop l.c-index l.history) ≡ map cluster_data l.history

use Rattle.std.proofs.Common.{◌≡◌, ◌++◌, drop, filter, not}
use Rattle.cmd_info.specs.ReportText.{is_current}
use Rattle.cmd_info.proofs.report.clusters.shown_clusters.Given as goal

-- those that are there and those to come are the whole
abbrev pub invariant-loop-cluster : goal.invariant-loop-cluster
invariant-loop-cluster l = record {
  before : l.shown.items ++ filter (λ c. not (is_current l.current c)) (drop l.cluster-index l.history) ≡ filter (λ c. not (is_current l.current c)) l.history;
  now : l.last.items ++ filter (is_current l.current) (drop l.cluster-index l.history) ≡ filter (is_current l.current) l.history;
}

use Rattle.std.proofs.Common.{◌≡◌, ◌++◌, drop, flat_map}
use Rattle.cmd_info.specs.Lines.{texts_of}
use Rattle.cmd_info.specs.ReportText.{cluster_lines}
use Rattle.cmd_info.proofs.report.clusters.add_each.Given as goal

-- the lines that are there and those to come are the whole
abbrev pub invariant-loop-cluster : goal.invariant-loop-cluster
invariant-loop-cluster l =
    let lines = flat_map (cluster_lines l.current l.archived) in
    texts_of l.lines ++ lines (drop l.cluster-index l.clusters) ≡ texts_of l.initial.lines ++ lines l.clusters

use Rattle.std.proofs.Common.{◌+◌, ◌-◌, vec_len}
use Rattle.repo_ini.specs.Parts.{keys_of}
use Rattle.repo_info.proofs.HistoryRules.{SoFar}
use Rattle.repo_info.proofs.history.clusters_of.Given as goal

abbrev pub invariant-loop-history : goal.invariant-loop-history
invariant-loop-history g l = SoFar g.C.Numbered.IsOne g.C.Numbered.number_of g.C.Numbered.field l.current (keys_of l.part) l.history.items

abbrev pub decreases-loop-history : goal.decreases-loop-history
decreases-loop-history g l = vec_len l.part.keys + l.least - vec_len l.history

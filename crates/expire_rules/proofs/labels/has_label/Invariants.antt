use Rattle.std.proofs.Common.{◌≡◌, drop}
use Rattle.expire_rules.specs.Labels.{has_label}
use Rattle.expire_rules.proofs.labels.has_label.Given as goal

-- the labels to come have it where all have
abbrev pub invariant-loop-each : goal.invariant-loop-each
invariant-loop-each l = has_label (drop l.each-index l.labels) l.label ≡ has_label l.labels l.label

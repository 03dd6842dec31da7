use Rattle.std.proofs.Common.{◌≡◌, drop, map}
use Rattle.base_model.specs.Values.{entry_of}
use Rattle.expire_rules.specs.Labels.{has_label, labels_of}
use Rattle.expire_make.proofs.labels.lists.Given as goal

-- the backups to come have it where all have
abbrev pub invariant-loop-each : goal.invariant-loop-each
invariant-loop-each l = has_label (labels_of (map entry_of (drop l.each-index l.entries))) l.label ≡ has_label (labels_of (map entry_of l.entries)) l.label

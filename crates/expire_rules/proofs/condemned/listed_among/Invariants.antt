use Rattle.std.proofs.Common.{◌≡◌, map, take}
use Rattle.std.specs.Prelude.{filter}
use Rattle.base_model.specs.Values.{entry_of}
use Rattle.expire_rules.specs.Labels.{has_label, labels_of}
use Rattle.expire_rules.proofs.condemned.listed_among.Given as goal

abbrev pub invariant-loop-entry : goal.invariant-loop-entry
invariant-loop-entry l = l.out.items ≡ filter (has_label l.labels) (labels_of (map entry_of (take l.entry-index l.entries)))

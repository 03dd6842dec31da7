use Rattle.std.proofs.Common.{◌≡◌, map, take}
use Rattle.std.specs.Prelude.{filter}
use Rattle.base_model.specs.Values.{entry_of}
use Rattle.expire_rules.specs.Labels.{labels_of}
use Rattle.expire_rules.specs.Condemned.{is_full}
use Rattle.expire_rules.proofs.counting_rules.labels_of_full.Given as goal

abbrev pub invariant-loop-entry : goal.invariant-loop-entry
invariant-loop-entry l = l.labels.items ≡ labels_of (filter is_full (map entry_of (take l.entry-index l.entries)))

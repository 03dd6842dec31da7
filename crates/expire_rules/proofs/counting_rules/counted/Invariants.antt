use Rattle.std.proofs.Common.{◌≡◌, map, take}
use Rattle.std.specs.Prelude.{filter, not}
use Rattle.base_model.specs.Values.{entry_of}
use Rattle.expire_rules.specs.Labels.{has_label}
use Rattle.expire_rules.specs.Condemned.{is_counted}
use Rattle.expire_rules.specs.Known.{mark_of}
use Rattle.expire_rules.proofs.counting_rules.counted.Given as goal

abbrev pub invariant-loop-entry : goal.invariant-loop-entry
invariant-loop-entry l = l.marks.items ≡ map mark_of (filter is_counted (filter (λ e. not (has_label l.gone e.label)) (map entry_of (take l.entry-index l.entries))))

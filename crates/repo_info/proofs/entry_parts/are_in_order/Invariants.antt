use Rattle.std.proofs.Common.{◌≡◌, map, drop, string_bytes}
use Rattle.base_devices.specs.Order.{are_in_order, are_after}
use Rattle.base_model.specs.Names.{label_text}
use Rattle.repo_info.proofs.entry_parts.are_in_order.Given as goal

-- the whole is in order exactly where the labels to come are, after the last one
abbrev pub invariant-loop-label : goal.invariant-loop-label
invariant-loop-label l = are_in_order (map label_text l.labels) ≡ are_after (string_bytes l.last) (map label_text (drop l.label-index l.labels))

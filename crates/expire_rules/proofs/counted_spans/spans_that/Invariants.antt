use Rattle.std.proofs.Common.{◌≡◌, map, take}
use Rattle.base_model.specs.Values.{entry_of}
use Rattle.expire_rules.specs.Needed.{counted_spans}
use Rattle.expire_rules.proofs.counted_spans.spans_that.Given as goal

abbrev pub invariant-loop-entry : goal.invariant-loop-entry
invariant-loop-entry l = l.spans.items ≡ counted_spans l.kind l.number (map entry_of (take l.entry-index l.entries))

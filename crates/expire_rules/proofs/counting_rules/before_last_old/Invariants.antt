use Rattle.std.proofs.Common.{◌≡◌, ◌≤◌, map, take, length}
use Rattle.std.specs.Prelude.{filter}
use Rattle.base_model.specs.Values.{entry_of}
use Rattle.expire_rules.specs.Condemned.{is_full, is_old, before_last}
use Rattle.expire_rules.proofs.counting_rules.before_last_old.Given as goal

abbrev pub invariant-loop-entry : goal.invariant-loop-entry
invariant-loop-entry l =
    (l.fulls ≡ length (filter is_full (map entry_of (take l.entry-index l.entries))))
    × (l.before ≡ length (before_last (is_old l.moment l.days) (filter is_full (map entry_of (take l.entry-index l.entries)))))
    × (l.fulls ≤ l.entry-index)

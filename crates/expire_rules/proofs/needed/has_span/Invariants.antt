use Rattle.std.proofs.Common.{◌≡◌, drop}
use Rattle.expire_rules.specs.Condemned.{has_some}
use Rattle.expire_rules.specs.Needed.{is_within}
use Rattle.expire_rules.proofs.needed.has_span.Given as goal

-- one of the spans to come has it where one of all has
abbrev pub invariant-loop-span : goal.invariant-loop-span
invariant-loop-span l = has_some (is_within l.segment) (drop l.span-index l.spans) ≡ has_some (is_within l.segment) l.spans

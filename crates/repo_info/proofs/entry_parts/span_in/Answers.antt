use Rattle.std.proofs.Common.{◌∙◌}
use Rattle.repo_info.proofs.EntryParts.{first_of, last_of, first_rules, last_rules, first_value, last_value, no_end, span_only}
use Rattle.repo_info.proofs.entry_parts.span_in.Goals as goal

pub returns-in_err-first : goal.returns-in_err-first
returns-in_err-first c = λ o rules start stop. absurd (no_end (first_of o) (c.in_err-first.ensures (first_of o) (first_rules o rules) (start ∙ first_value o)))

pub returns-in_err-last : goal.returns-in_err-last
returns-in_err-last c = λ o rules start stop. absurd (no_end (last_of o) (c.in_err-last.ensures (last_of o) (last_rules o rules) (stop ∙ last_value o)))

pub returns : goal.returns
returns c = λ o rules start stop.
    c.between.ensures ∙ span_only c.in_ok-first.first c.in_ok-last.last o (c.in_ok-first.ensures (first_of o) (first_rules o rules) (start ∙ first_value o)) (c.in_ok-last.ensures (last_of o) (last_rules o rules) (stop ∙ last_value o))

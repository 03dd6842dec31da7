use Rattle.base_model.specs.Values.{entry_of}
use Rattle.cmd_verify.specs.Contradictions.{IsOtherPrior}
use Rattle.cmd_verify.proofs.Adding.{item_in}
use Rattle.cmd_verify.proofs.Contradicted.{none_of_none, made_more_not, not_made_at_all}
use Rattle.cmd_verify.proofs.findings.priors.has_other_prior.Goals as goal

pub loop-other-init : goal.loop-other-init
loop-other-init c = none_of_none (IsOtherPrior (entry_of c.args.entry.now))

pub loop-other-preserved : goal.loop-other-preserved
loop-other-preserved c =
    let l = c.loop-other in
    made_more_not entry_of (IsOtherPrior (entry_of c.args.entry.now)) c.args.entries.now l.other-index c.other-item.result c.loop-other-test.true c.other-item.is l.invariant (c.is_other_prior.ensures.no c.if-is_other_prior.false)

pub returns-then-is_other_prior-clause-yes : goal.returns-then-is_other_prior-clause-yes
returns-then-is_other_prior-clause-yes c = λ _.
    (entry_of c.other-item.result, item_in entry_of c.args.entries.now c.loop-other.other-index c.other-item.result c.loop-other-test.true c.other-item.is, c.is_other_prior.ensures.yes c.if-is_other_prior.true)

pub returns-clause-no : goal.returns-clause-no
returns-clause-no c = λ _. not_made_at_all entry_of (IsOtherPrior (entry_of c.args.entry.now)) c.args.entries.now c.loop-other.other-index c.loop-other-test.false c.loop-other.invariant

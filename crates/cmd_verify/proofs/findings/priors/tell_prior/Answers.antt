use Rattle.std.proofs.Common.{map, refl}
use Rattle.base_model.specs.Values.{entry_of}
use Rattle.cmd_verify.specs.Contradictions.{HasOtherPrior}
use Rattle.cmd_verify.specs.What.{Contradicts, OtherPrior}
use Rattle.cmd_verify.proofs.Contradicted.{at_known, at_none}
use Rattle.cmd_verify.proofs.findings.priors.tell_prior.Goals as goal

pub returns-in_ok-push : goal.returns-in_ok-push
returns-in_ok-push c =
    at_known c.args.name.now (Contradicts OtherPrior) (HasOtherPrior (map entry_of c.args.entries.now) (entry_of c.args.entry.now)) c.args.found.now.items c.push.new.self.items c.in_ok-contradiction.field-0 (c.has_other_prior.ensures.yes c.if-has_other_prior.true)
    (c.in_ok-contradiction.ensures OtherPrior refl) c.in_ok-push.ensures.items

pub returns-else-has_other_prior : goal.returns-else-has_other_prior
returns-else-has_other_prior c =
    at_none c.args.name.now (Contradicts OtherPrior) (HasOtherPrior (map entry_of c.args.entries.now) (entry_of c.args.entry.now)) c.args.found.now.items (c.has_other_prior.ensures.no c.if-has_other_prior.false)

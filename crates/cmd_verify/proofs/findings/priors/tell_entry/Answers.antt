use Rattle.std.proofs.Common.{◌∙◌, map, subst}
use Rattle.base_model.specs.Text.{Text}
use Rattle.base_model.specs.Values.{entry_of}
use Rattle.cmd_verify.specs.Adding.{Adds}
use Rattle.cmd_verify.specs.Contradictions.{HasOtherPrior, IsAt}
use Rattle.cmd_verify.specs.What.{Contradicts, OtherPrior}
use Rattle.cmd_verify.proofs.findings.priors.tell_entry.Goals as goal

pub returns : goal.returns
returns c =
    subst (λ (n : Text). Adds (IsAt n (Contradicts OtherPrior) (HasOtherPrior (map entry_of c.args.entries.now) (entry_of c.args.entry.now))) c.args.found.now.items c.tell_prior.new.found.items)
    (c.as_str.ensures.value ∙ c.in_ok-name.ensures) c.in_ok-tell_prior.ensures

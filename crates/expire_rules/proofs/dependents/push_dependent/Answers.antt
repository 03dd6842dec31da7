use Rattle.std.proofs.Common.{List, false, ◌∙◌, sym, ap}
use Rattle.std.specs.Option.{option_map_or}
use Rattle.base_model.specs.declared.labels.Label.{Label}
use Rattle.expire_rules.specs.Labels.{has_label}
use Rattle.expire_rules.proofs.Depending.{pushed, kept_out}
use Rattle.expire_rules.proofs.dependents.push_dependent.Goals as goal

pub returns-then-has_prior : goal.returns-then-has_prior
returns-then-has_prior c = pushed c.args.labels.now.items c.push.new.self.items c.args.entry.now.label (option_map_or (has_label c.args.labels.now.items) c.args.entry.now.prior false)
    (sym (c.has_prior.ensures ∙ ap (λ (ls : List Label). option_map_or (has_label ls) c.args.entry.now.prior false) c.deref.ensures.value) ∙ c.if-has_prior.true) c.in_ok-push.ensures.items

pub returns : goal.returns
returns c = kept_out c.args.labels.now.items c.args.entry.now.label (option_map_or (has_label c.args.labels.now.items) c.args.entry.now.prior false)
    (sym (c.has_prior.ensures ∙ ap (λ (ls : List Label). option_map_or (has_label ls) c.args.entry.now.prior false) c.deref.ensures.value) ∙ c.if-has_prior.false)

use Rattle.std.proofs.Common.{rules, map, not, ap, ◌∙◌}
use Rattle.std.proofs.lemmas.Fn.{filter_same}
use Rattle.base_model.specs.Values.{entry_of}
use Rattle.expire_rules.specs.Labels.{has_label}
use Rattle.expire_rules.proofs.Lists.{map_filter}
use Rattle.expire_make.proofs.labels.without.Goals as goal

pub returns : goal.returns
returns c =
    let kept = filter_same _ (λ e. not (has_label c.args.labels.now e.label)) _ (λ x b f' k. search rules) _ _ c.retain.ensures.filtered in
    ap (map entry_of) kept ∙ map_filter entry_of (λ e. not (has_label c.args.labels.now e.label)) c.args.entries.items

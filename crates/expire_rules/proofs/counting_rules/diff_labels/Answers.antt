use Rattle.std.proofs.Common.{map, ◌∙◌, ap, ◌≡◌, ◌-◌, length, rules}
use Rattle.std.specs.Prelude.{filter, not}
use Rattle.base_model.specs.Values.{entry_of}
use Rattle.expire_rules.specs.Labels.{has_label}
use Rattle.expire_rules.specs.Known.{diffs_marked}
use Rattle.expire_rules.proofs.Joined.{if_ok_on}
use Rattle.expire_rules.proofs.Firsts.{diffs_taken}
use Rattle.expire_rules.proofs.counting_rules.diff_labels.Goals as goal

pub returns : goal.returns
returns c =
    let count : c.saturating_sub.result ≡ length c.in_ok-marks.marks.items - c.in-Some.n = search rules in
    if_ok_on c.diffs_of.result _ _ (λ labels is. diffs_taken (filter (λ e. not (has_label c.args.gone.now e.label)) (map entry_of c.args.entries.now)) _ _ _ c.args.rule _ _ c.in-Some.is c.in_ok-marks.ensures count c.truncate.ensures.items
    (is ∙ ap diffs_marked c.deref.ensures.value)) c.diffs_of.ensures

use Rattle.std.proofs.Common.{◌≡◌, ◌++◌, ◌∷◌, [], List, Option, sym, ap, ◌∙◌}
use Rattle.std.specs.Prelude.{codes}
use Rattle.std.proofs.lemmas.Result.{on_ok_weaker}
use Rattle.base_model.specs.Text.{Text}
use Rattle.cmd_restore.specs.declared.order.Timeline.{Timeline}
use Rattle.cmd_restore.specs.Targets.{lines_in, setting, timeline_lines}
use Rattle.cmd_restore.proofs.target_lines.add_timeline.Goals as goal

pub returns : goal.returns
returns c =
    let old = lines_in c.args.lines.now in
    on_ok_weaker c.add_setting.result
    (λ added. added
    ∙ ap (λ (value : Text). old ++ setting (codes "recovery_target_timeline") value ∷ []) (c.as_str.ensures.value ∙ c.in_ok-text.ensures)
    ∙ ap (λ (t : Option Timeline). old ++ timeline_lines t) (sym c.in-Some.is))
    c.add_setting.ensures

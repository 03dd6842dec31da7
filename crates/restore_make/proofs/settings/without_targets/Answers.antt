use Rattle.std.proofs.Common.{◌++◌, sym, ap, ◌∙◌}
use Rattle.base_model.specs.Text.{Text}
use Rattle.repo_ini.specs.Reading.{rest_pieces}
use Rattle.restore_make.specs.Recovered.{out_of_force}
use Rattle.restore_make.proofs.Targets.{following, line_first, line_more}
use Rattle.restore_make.proofs.settings.without_targets.Goals as goal

pub loop-rest-init : goal.loop-rest-init
loop-rest-init c =
    let first = c.next_piece.result.0.now in
    let rest = c.next_piece.result.1 in
    line_first c.args.held.now first rest c.next_piece.ensures
    ∙ ap (λ (t : Text). t ++ following rest) (sym (c.in_ok-add_line.ensures ∙ ap (λ (t : Text). t ++ out_of_force first) c.new-text.ensures.items))

pub loop-rest-preserved : goal.loop-rest-preserved
loop-rest-preserved c =
    let left = c.in-Some.left in
    let line = c.next_piece-in-Some.result.0.now in
    let rest = c.next_piece-in-Some.result.1 in
    c.loop-rest.invariant
    ∙ ap (λ o. c.loop-rest.text.items ++ following o) c.in-Some.is
    ∙ sym (line_more c.loop-rest.text.items c.push.new.self.items c.add_line-in-Some.new.text.items line left rest c.in_ok-push.ensures.items c.in_ok-add_line-2.ensures c.next_piece-in-Some.ensures)

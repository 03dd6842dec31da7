use Rattle.std.proofs.Common.{◌≡◌, ◌++◌, true, sym, ap, ◌∙◌, append_assoc}
use Rattle.std.specs.Prelude.{codes}
use Rattle.base_model.specs.Text.{Text}
use Rattle.restore_make.specs.Recovered.{sets_target}
use Rattle.restore_make.proofs.Targets.{removed}
use Rattle.restore_make.proofs.settings.add_line.Goals as goal

pub returns : goal.returns
returns c =
    let old = c.args.text.now.items in
    let line = c.args.line.now in
    let head : Text = codes "# Removed by pgBackRest restore # " in
    let sets : sets_target line ≡ true = sym c.sets_target.ensures ∙ c.if-not-sets_target.false in
    c.in_ok-extend_from_slice-2.ensures.items ∙ ap (λ (t : Text). t ++ line) c.in_ok-extend_from_slice.ensures.items ∙ append_assoc old head line ∙ ap (λ (t : Text). old ++ t) (sym (removed line sets))

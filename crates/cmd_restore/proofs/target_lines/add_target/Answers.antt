use Rattle.std.proofs.Common.{◌≡◌, ◌++◌, ◌∷◌, [], Bool, true, List, sym, ap, ◌∙◌, append_assoc}
use Rattle.std.specs.Prelude.{codes}
use Rattle.base_model.specs.Text.{Text}
use Rattle.cmd_restore.specs.Targets.{lines_in, setting, target_name, inclusive_lines}
use Rattle.cmd_restore.proofs.target_lines.add_target.Goals as goal

pub returns-in_ok-add_setting-2 : goal.returns-in_ok-add_setting-2
returns-in_ok-add_setting-2 c =
    let old = lines_in c.args.lines.now in
    let text = c.args.target.now.text.now in
    let named : Text → Text = λ name. setting name text in
    let last : Text = setting (codes "recovery_target_inclusive") (codes "false") in
    let exclusive : c.args.target.now.exclusive ≡ true = c.if-target.true in
    c.in_ok-add_setting-2.ensures
    ∙ ap (λ (l : List Text). l ++ last ∷ []) c.in_ok-add_setting.ensures
    ∙ append_assoc old (named c.target_name.result.now ∷ []) (last ∷ [])
    ∙ ap (λ (name : Text). old ++ named name ∷ last ∷ []) c.target_name.ensures
    ∙ ap (λ (b : Bool). old ++ named (target_name c.args.target.now.kind) ∷ inclusive_lines b) (sym exclusive)

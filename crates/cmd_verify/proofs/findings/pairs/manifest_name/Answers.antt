use Rattle.std.proofs.Common.{◌∷◌, ◌++◌, ap, sym, ◌∙◌, append_assoc}
use Rattle.std.specs.Prelude.{codes}
use Rattle.base_model.specs.Text.{Text}
use Rattle.base_model.specs.Names.{label_text}
use Rattle.cmd_verify.proofs.findings.pairs.manifest_name.Goals as goal

pub returns : goal.returns
returns c =
    c.in_ok-format.ensures.ok ∙ ap (λ (t : Text). codes "backup/" ++ (c.args.stanza.now ++ 47 ∷ (t ++ 47 ∷ codes "backup.manifest"))) c.in_ok-label.ensures
    ∙ sym (ap (λ (t : Text). codes "backup/" ++ t) (append_assoc c.args.stanza.now (47 ∷ label_text c.args.label.now) (47 ∷ codes "backup.manifest")))

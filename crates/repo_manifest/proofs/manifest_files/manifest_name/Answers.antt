use Rattle.std.proofs.Common.{◌∷◌, ◌++◌, ap, sym, ◌∙◌, append_assoc}
use Rattle.std.specs.Prelude.{codes}
use Rattle.base_model.specs.Text.{Text}
use Rattle.base_model.specs.Names.{label_text}
use Rattle.repo_manifest.proofs.manifest_files.manifest_name.Goals as goal

pub returns : goal.returns
returns c =
    let stanza = c.args.stanza.now in
    let last = codes "/backup.manifest" in
    c.in_ok-format.ensures.ok
    ∙ ap (λ (t : Text). codes "backup/" ++ stanza ++ 47 ∷ (t ++ last)) c.in_ok-label.ensures
    ∙ ap (λ (t : Text). codes "backup/" ++ t) (sym (append_assoc stanza (47 ∷ label_text c.args.label.now) last))

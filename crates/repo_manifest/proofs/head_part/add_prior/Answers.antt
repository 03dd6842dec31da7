use Rattle.std.proofs.Common.{◌++◌, Option, ap, sym, ◌∙◌}
use Rattle.std.specs.Prelude.{codes}
use Rattle.base_model.specs.declared.labels.Label.{Label}
use Rattle.base_model.specs.InfoFiles.{label_value}
use Rattle.base_model.specs.ManifestText.{optional}
use Rattle.repo_ini.specs.Parts.{keys_of}
use Rattle.repo_manifest.proofs.KeyLists.{one_key, text_value}
use Rattle.repo_manifest.proofs.head_part.add_prior.Goals as goal

pub returns-clause-keys : goal.returns-clause-keys
returns-clause-keys c =
    let old = keys_of c.args.part.now in
    one_key old _ (codes "backup-prior") _ (label_value c.in-Some.label) c.in_ok-add.ensures.ok (text_value c.in_ok-text.text _ c.in_ok-text.ensures)
    ∙ ap (λ (o : Option Label). old ++ optional (codes "backup-prior") label_value o) (sym c.in-Some.is)

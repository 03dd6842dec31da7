use Rattle.std.proofs.Common.{◌++◌, Option, ap, sym, ◌∙◌}
use Rattle.std.specs.Prelude.{codes}
use Rattle.base_model.specs.declared.wal.WalPart.{WalPart}
use Rattle.base_model.specs.Fields.{whole}
use Rattle.base_model.specs.ManifestText.{optional}
use Rattle.repo_ini.specs.Parts.{keys_of}
use Rattle.repo_manifest.proofs.KeyLists.{one_key}
use Rattle.repo_manifest.proofs.head_part.add_size.Goals as goal

pub returns-clause-keys : goal.returns-clause-keys
returns-clause-keys c =
    let old = keys_of c.args.part.now in
    one_key old _ (codes "backup-wal-segment-size") _ (whole c.in-Some.wal.size.0) c.in_ok-add.ensures.ok (c.from.ensures ∙ ap whole c.from-size.ensures)
    ∙ ap (λ (o : Option WalPart). old ++ optional (codes "backup-wal-segment-size") (λ (w : WalPart). whole w.size.0) o) (sym c.in-Some.is)

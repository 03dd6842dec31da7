use Rattle.std.proofs.Common.{◌++◌, Option, ap, sym, ◌∙◌}
use Rattle.std.specs.Prelude.{codes}
use Rattle.base_model.specs.declared.wal.WalPart.{WalPart}
use Rattle.base_model.specs.InfoFiles.{segment_value}
use Rattle.base_model.specs.ManifestText.{optional}
use Rattle.repo_ini.specs.Parts.{keys_of}
use Rattle.repo_manifest.proofs.KeyLists.{two_keys, text_value}
use Rattle.repo_manifest.proofs.head_part.add_span.Goals as goal

pub returns-clause-keys : goal.returns-clause-keys
returns-clause-keys c =
    let old = keys_of c.args.part.now in
    two_keys old _ _ (codes "backup-archive-start") (codes "backup-archive-stop") _ (segment_value c.in-Some.wal.span.start) _ (segment_value c.in-Some.wal.span.stop) c.in_ok-add.ensures.ok c.in_ok-add-2.ensures.ok (text_value c.in_ok-start.start _ c.in_ok-start.ensures) (text_value c.in_ok-stop.stop _ c.in_ok-stop.ensures)
    ∙ ap (λ (o : Option WalPart). (old ++ optional (codes "backup-archive-start") (λ (w : WalPart). segment_value w.span.start) o) ++ optional (codes "backup-archive-stop") (λ (w : WalPart). segment_value w.span.stop) o) (sym c.in-Some.is)

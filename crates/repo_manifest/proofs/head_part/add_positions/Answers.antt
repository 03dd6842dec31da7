use Rattle.std.proofs.Common.{◌++◌, Option, ap, sym, ◌∙◌}
use Rattle.std.specs.Prelude.{codes}
use Rattle.serde_json.specs.Data.{string}
use Rattle.base_model.specs.declared.wal.WalPart.{WalPart}
use Rattle.base_model.specs.ManifestText.{lsn_text, optional}
use Rattle.repo_ini.specs.Parts.{keys_of}
use Rattle.repo_manifest.proofs.KeyLists.{two_keys, text_value}
use Rattle.repo_manifest.proofs.head_part.add_positions.Goals as goal

pub returns-clause-keys : goal.returns-clause-keys
returns-clause-keys c =
    let old = keys_of c.args.part.now in
    two_keys old _ _ (codes "backup-lsn-start") (codes "backup-lsn-stop") _ (string (lsn_text c.in-Some.wal.from.0)) _ (string (lsn_text c.in-Some.wal.to.0)) c.in_ok-add.ensures.ok c.in_ok-add-2.ensures.ok (text_value c.in_ok-from.from _ c.in_ok-from.ensures) (text_value c.in_ok-to.to _ c.in_ok-to.ensures)
    ∙ ap (λ (o : Option WalPart). (old ++ optional (codes "backup-lsn-start") (λ (w : WalPart). string (lsn_text w.from.0)) o) ++ optional (codes "backup-lsn-stop") (λ (w : WalPart). string (lsn_text w.to.0)) o) (sym c.in-Some.is)

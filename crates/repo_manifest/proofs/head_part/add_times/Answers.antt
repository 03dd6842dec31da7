use Rattle.std.specs.Prelude.{codes}
use Rattle.serde_json.specs.Data.{string}
use Rattle.base_model.specs.Fields.{whole}
use Rattle.base_model.specs.InfoFiles.{kind_text}
use Rattle.repo_ini.specs.Parts.{keys_of}
use Rattle.repo_manifest.proofs.KeyLists.{one_key, three_keys}
use Rattle.repo_manifest.proofs.head_part.add_times.Goals as goal

pub returns-clause-keys : goal.returns-clause-keys
returns-clause-keys c =
    let h = c.args.head.now in
    three_keys (keys_of c.args.part.now) (keys_of c.add.new.self) (keys_of c.add-2.new.self) (keys_of c.add-3.new.self) (codes "backup-timestamp-start", whole h.start) (codes "backup-timestamp-stop", whole h.stop) (codes "backup-type", string (kind_text h.kind))
    (one_key _ _ (codes "backup-timestamp-start") _ (whole h.start) c.in_ok-add.ensures.ok c.from.ensures)
    (one_key _ _ (codes "backup-timestamp-stop") _ (whole h.stop) c.in_ok-add-2.ensures.ok c.from-2.ensures)
    (one_key _ _ (codes "backup-type") _ (string (kind_text h.kind)) c.in_ok-add-3.ensures.ok c.in_ok-kind.ensures)

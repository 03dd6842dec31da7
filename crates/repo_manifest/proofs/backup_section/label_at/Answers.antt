use Rattle.std.proofs.Common.{map}
use Rattle.serde_json.specs.View.{view}
use Rattle.base_model.specs.InfoFiles.{IsLabel, label_value}
use Rattle.repo_ini.specs.Parts.{key_of}
use Rattle.repo_info.proofs.EntryParts.{same_label}
use Rattle.repo_manifest.proofs.ReadAt.{read_none, read_other, read_some}
use Rattle.repo_manifest.proofs.backup_section.label_at.Goals as goal

pub returns-in_default-clause-read : goal.returns-in_default-clause-read
returns-in_default-clause-read c = read_none label_value IsLabel (map key_of c.args.keys.now) c.args.key.now _ c.in_default.ensures.none

pub returns-in-None-clause-read : goal.returns-in-None-clause-read
returns-in-None-clause-read c = read_other label_value IsLabel (map key_of c.args.keys.now) c.args.key.now _ (view c.in-Some.value.now) c.requires c.in-Some.ensures.found c.in-None.ensures.none

pub returns-in-Some-label_in-clause-read : goal.returns-in-Some-label_in-clause-read
returns-in-Some-label_in-clause-read c =
    let label = c.in-Some-label_in.label in
    let model = c.in-Some-label_in.ensures.some in
    read_some label_value IsLabel (map key_of c.args.keys.now) c.args.key.now label (view c.in-Some.value.now) c.requires c.in-Some.ensures.found model.1 (λ y h e. same_label label y model.0 h e)

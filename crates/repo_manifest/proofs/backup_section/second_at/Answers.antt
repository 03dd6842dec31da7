use Rattle.std.proofs.Common.{◌≤◌, map}
use Rattle.serde_json.specs.View.{view}
use Rattle.base_devices.specs.States.{last_second}
use Rattle.base_model.specs.Fields.{whole}
use Rattle.repo_ini.specs.Parts.{key_of}
use Rattle.repo_keys.proofs.Scalars.{same_number}
use Rattle.repo_manifest.proofs.ReadAt.{read_none, read_other, read_some}
use Rattle.repo_manifest.proofs.backup_section.second_at.Goals as goal

pub returns-in_default-clause-read : goal.returns-in_default-clause-read
returns-in_default-clause-read c = read_none whole (λ t. t ≤ last_second) (map key_of c.args.keys.now) c.args.key.now _ c.in_default.ensures.none

pub returns-in-None-clause-read : goal.returns-in-None-clause-read
returns-in-None-clause-read c = read_other whole (λ t. t ≤ last_second) (map key_of c.args.keys.now) c.args.key.now _ (view c.in-Some.value.now) c.requires c.in-Some.ensures.found c.in-None.ensures.none

pub returns-in-Some-second_in-clause-read : goal.returns-in-Some-second_in-clause-read
returns-in-Some-second_in-clause-read c =
    let time = c.in-Some-second_in.time in
    read_some whole (λ t. t ≤ last_second) (map key_of c.args.keys.now) c.args.key.now time (view c.in-Some.value.now) c.requires c.in-Some.ensures.found c.in-Some-second_in.ensures.some.1 (λ y h e. same_number time y e)

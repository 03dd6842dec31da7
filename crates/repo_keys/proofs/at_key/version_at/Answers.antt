use Rattle.std.proofs.Common.{◌<◌, ◌^◌, map}
use Rattle.serde_json.specs.View.{view}
use Rattle.base_model.specs.InfoFiles.{version_value}
use Rattle.repo_ini.specs.Parts.{key_of}
use Rattle.repo_keys.proofs.Keyed.{none_at}
use Rattle.repo_keys.proofs.at_key.version_at.Goals as goal

pub returns-in-Some-clause-none : goal.returns-in-Some-clause-none
returns-in-Some-clause-none c = none_at (map key_of c.args.keys.now) c.args.key.now (view c.in-Some.value.now) version_value (λ n. n < 2 ^ 32) c.version_of.result c.requires c.in-Some.ensures.found c.version_of.ensures.none

pub returns-in-None-clause-none : goal.returns-in-None-clause-none
returns-in-None-clause-none c = λ n fits. c.in-None.ensures.none (version_value n)

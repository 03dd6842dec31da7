use Rattle.std.proofs.Common.{map}
use Rattle.serde_json.specs.View.{view}
use Rattle.base_model.specs.Fields.{whole}
use Rattle.repo_ini.specs.Parts.{key_of}
use Rattle.repo_keys.proofs.Keyed.{none_ever}
use Rattle.repo_keys.proofs.at_key.whole_at.Goals as goal

pub returns-in-Some-clause-none : goal.returns-in-Some-clause-none
returns-in-Some-clause-none c = none_ever (map key_of c.args.keys.now) c.args.key.now (view c.in-Some.value.now) whole c.whole_of.result c.requires c.in-Some.ensures.found c.whole_of.ensures.none

pub returns-in-None-clause-none : goal.returns-in-None-clause-none
returns-in-None-clause-none c = λ n. c.in-None.ensures.none (whole n)

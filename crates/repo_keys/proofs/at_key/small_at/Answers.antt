use Rattle.std.proofs.Common.{map}
use Rattle.serde_json.specs.View.{view}
use Rattle.base_model.specs.Fields.{whole}
use Rattle.repo_ini.specs.Parts.{key_of}
use Rattle.repo_keys.proofs.Keyed.{one_number}
use Rattle.repo_keys.proofs.Keyed.{same_value}
use Rattle.repo_keys.proofs.at_key.small_at.Goals as goal

pub returns-in_default : goal.returns-in_default
returns-in_default c = λ n h i. absurd (c.in_default.ensures.none (whole n) i)

pub returns-in-Some-small_of : goal.returns-in-Some-small_of
returns-in-Some-small_of c = λ n h i. one_number (map key_of c.args.keys.now) c.args.key.now (view c.in-Some.value.now) c.in-Some-small_of.n n c.requires c.in-Some.ensures.found c.in-Some-small_of.ensures.some i

pub returns-in-None : goal.returns-in-None
returns-in-None c = λ n h i. absurd (c.in-None.ensures.none n h (same_value (map key_of c.args.keys.now) c.args.key.now (view c.in-Some.value.now) (whole n) c.requires c.in-Some.ensures.found i))

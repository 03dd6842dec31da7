use Rattle.std.proofs.Common.{map, refl}
use Rattle.base_model.specs.Fields.{whole}
use Rattle.repo_ini.specs.Parts.{key_of}
use Rattle.repo_keys.proofs.Keyed.{one_number}
use Rattle.repo_keys.proofs.at_key.system_at.Goals as goal

pub returns-in-Some : goal.returns-in-Some
returns-in-Some c = λ n i. one_number (map key_of c.args.keys.now) c.args.key.now (whole c.in-Some.n) c.in-Some.n n c.requires c.in-Some.ensures.some refl i

pub returns-in-None : goal.returns-in-None
returns-in-None c = λ n i. absurd (c.in-None.ensures.none n i)

use Rattle.std.proofs.Common.{map, arith}
use Rattle.repo_ini.specs.Parts.{key_of}
use Rattle.repo_keys.proofs.Keyed.{one_version}
use Rattle.repo_keys.proofs.at_key.major_at.Goals as goal

pub returns-in-Some : goal.returns-in-Some
returns-in-Some c = λ n h i. one_version (map key_of c.args.keys.now) c.args.key.now c.in-Some.n n (omega arith) h c.requires c.in-Some.ensures.some i

pub returns-in-None : goal.returns-in-None
returns-in-None c = λ n h i. absurd (c.in-None.ensures.none n h i)

use Rattle.std.proofs.Common.{map, refl}
use Rattle.base_model.specs.Fields.{whole}
use Rattle.repo_ini.specs.Parts.{key_of}
use Rattle.repo_keys.proofs.Keyed.{one_number}
use Rattle.repo_info.proofs.backup_current.id_at.Goals as goal

pub returns-in-Some-clause-only : goal.returns-in-Some-clause-only
returns-in-Some-clause-only c = λ n h low i. one_number (map key_of c.args.keys.now) c.args.key.now (whole c.in-Some.n) c.in-Some.n n c.requires c.in-Some.ensures.some.1 refl i

pub returns-in-None-clause-only : goal.returns-in-None-clause-only
returns-in-None-clause-only c = λ n h low i. absurd (c.in-None.ensures.none n h low i)

use Rattle.std.proofs.Common.{◌∙◌}
use Rattle.expire_make.proofs.Planned.{named_archive}
use Rattle.expire_make.proofs.expiry_plan.clusters.Goals as goal

pub returns-clause-found : goal.returns-clause-found
returns-clause-found g c = named_archive _ _ _ _ (c.as_str.ensures.value ∙ c.in_ok-name.ensures) c.in_ok-value.ensures.found

use Rattle.std.proofs.Common.{◌∙◌}
use Rattle.base_model.specs.Values.{backup_info_of}
use Rattle.expire_make.proofs.Planned.{named_pair}
use Rattle.expire_make.proofs.Spelled.{unfits}
use Rattle.expire_make.proofs.expiry_plan.backups.Goals as goal

pub returns-clause-found : goal.returns-clause-found
returns-clause-found g c = named_pair _ _ _ _ (c.as_str.ensures.value ∙ c.in_ok-name.ensures) c.in_ok-value.ensures.found

pub returns-clause-within : goal.returns-clause-within
returns-clause-within g c = unfits (backup_info_of c.in_ok-value.value) c.in_ok-value.ensures.within

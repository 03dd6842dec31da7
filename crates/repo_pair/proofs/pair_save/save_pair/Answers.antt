use Rattle.base_devices.proofs.Crashes.{crash_none}
use Rattle.base_model.specs.InfoText.{info_text}
use Rattle.base_model.specs.Create.{member_writes}
use Rattle.repo_pair.proofs.Owned.{none_owned}
use Rattle.repo_pair.proofs.pair_save.save_pair.Goals as goal

pub returns-in_err-text-clause-crash : goal.returns-in_err-text-clause-crash
returns-in_err-text-clause-crash g c = λ main copy. crash_none (member_writes c.args.name.now (info_text (g.I.Info.sections c.args.value.now))) _

pub returns-in_err-text-clause-only : goal.returns-in_err-text-clause-only
returns-in_err-text-clause-only g c = none_owned c.args.name.now _

use Rattle.std.proofs.Common.{arith}
use Rattle.std.proofs.lemmas.Grind.{common_steps}
use Rattle.repo_stanza.proofs.Refused.{both_refused}
use Rattle.repo_stanza.proofs.control.read_control.Goals as goal

pub returns-in_err-version-clause-refused : goal.returns-in_err-version-clause-refused
returns-in_err-version-clause-refused c = grind (arith, common_steps, both_refused)

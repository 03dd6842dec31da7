use Rattle.std.proofs.Common.{◌∙◌, sym, arith}
use Rattle.repo_keys.proofs.Numbers.{no_number}
use Rattle.repo_info.proofs.history.number_in.Goals as goal

pub returns-in-Some-clause-none : goal.returns-in-Some-clause-none
returns-in-Some-clause-none c = no_number c.history_number.result c.in-Some.n c.args.key.now (sym c.as_bytes.ensures.value ∙ c.in-Some.ensures.value) (omega arith) c.history_number.ensures.none

use Rattle.std.proofs.Common.{List, ℕ, sym, subst}
use Rattle.repo_names.specs.Lsn.{IsLsn}
use Rattle.server_talk.proofs.session.rows.read_place.Goals as goal

pub returns-in_default-clause-none : goal.returns-in_default-clause-none
returns-in_default-clause-none c = λ at s is named same. c.in_default.ensures.none at (subst (λ (text : List ℕ). IsLsn text at) (sym c.as_bytes.ensures.value) is)

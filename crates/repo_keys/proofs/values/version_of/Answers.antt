use Rattle.std.proofs.Common.{◌∙◌, sym, arith}
use Rattle.serde_json.specs.View.{view}
use Rattle.repo_keys.proofs.Scalars.{version_none}
use Rattle.repo_keys.proofs.values.version_of.Goals as goal

pub returns-clause-none : goal.returns-clause-none
returns-clause-none c = version_none (view c.args.value.now) c.in_ok-text.text.now c.in_ok-n.n c.try_from.result c.ok.result c.in_ok-text.ensures (sym c.as_bytes.ensures.value ∙ c.in_ok-n.ensures.value, omega arith) c.ok.ensures.value c.try_from.ensures

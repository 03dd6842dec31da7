use Rattle.serde_json.specs.View.{view}
use Rattle.repo_info.proofs.EntryParts.{prior_only}
use Rattle.repo_info.proofs.entry_parts.prior_in.Goals as goal

pub returns-clause-only : goal.returns-clause-only
returns-clause-only c = prior_only (view c.args.value.now) c.in_ok-label.label c.in_ok-label.ensures.some.0 c.in_ok-label.ensures.some.1

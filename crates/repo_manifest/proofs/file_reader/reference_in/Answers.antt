use Rattle.std.proofs.Common.{codes, ap, ◌∙◌}
use Rattle.serde_json.specs.View.{view}
use Rattle.serde_json.specs.Find.{get}
use Rattle.repo_manifest.proofs.FileValues.{at_reference, reference_only}
use Rattle.repo_manifest.proofs.file_reader.reference_in.Goals as goal

pub returns-clause-only : goal.returns-clause-only
returns-clause-only c = λ e h is. reference_only (view c.in-Some.value.now) c.in_ok-label.label c.in_ok-label.ensures.some.0 c.in_ok-label.ensures.some.1 e.reference h.reference (c.in-Some.ensures ∙ ap (get (codes "reference")) is ∙ at_reference e)

use Rattle.std.proofs.Common.{codes, ap, ◌∙◌}
use Rattle.serde_json.specs.View.{view}
use Rattle.serde_json.specs.Find.{get}
use Rattle.repo_manifest.proofs.FileValues.{at_checksum, some_data, same_sum}
use Rattle.repo_manifest.proofs.file_reader.sum_in.Goals as goal

pub returns-clause-only : goal.returns-clause-only
returns-clause-only c = λ e h is.
    let at = some_data (c.in_ok-get.ensures ∙ ap (get (codes "checksum")) is ∙ at_checksum e) in
    same_sum c.sum_of.result (view c.in_ok-get.field-0.now) e.sum at h.sum c.sum_of.ensures.some c.sum_of.ensures.none

use Rattle.std.proofs.Common.{[], ◌∷◌, sym, ◌∙◌}
use Rattle.base_model.specs.Names.{letter}
use Rattle.repo_names.proofs.StampTexts.{same_stamp}
use Rattle.repo_names.proofs.labels.labels.read_part.Goals as goal

pub returns-in_err-kind-clause-none : goal.returns-in_err-kind-clause-none
returns-in_err-kind-clause-none c =
    rw c.from_residual-in_err-kind.ensures (λ l h k e.
    let time = c.in_ok-time.ensures.value in
    let same = same_stamp c.in_ok-time.time l.time c.in_ok-time.rest.now (letter l.kind ∷ []) time.0 h (sym time.1 ∙ e) in
    c.in_err-kind.ensures.none l.kind k same.1)

use Rattle.std.proofs.Common.{◌≡◌, ◌∷◌, sym, ◌∙◌}
use Rattle.base_model.specs.Names.{later_text}
use Rattle.repo_names.proofs.StampTexts.{same_stamp}
use Rattle.repo_names.proofs.labels.labels.read_label.Goals as goal

pub returns-in_err-rest-clause-none : goal.returns-in_err-rest-clause-none
returns-in_err-rest-clause-none c =
    rw c.from_residual-in_err-rest.ensures (λ l h e.
    let full = c.in_ok-full.ensures.value in
    let same = same_stamp c.in_ok-full.full l.full c.in_ok-full.rest.now (70 ∷ later_text l.later) full.0 h.full (sym full.1 ∙ e) in
    c.in_err-rest.ensures.none (later_text l.later) same.1)

pub returns-in_err-later-clause-none : goal.returns-in_err-later-clause-none
returns-in_err-later-clause-none c =
    rw c.from_residual-in_err-later.ensures (λ l h e.
    let full = c.in_ok-full.ensures.value in
    let same = same_stamp c.in_ok-full.full l.full c.in_ok-full.rest.now (70 ∷ later_text l.later) full.0 h.full (sym full.1 ∙ e) in
    let letter = sym c.in_ok-rest.ensures.value ∙ same.1 in
    let following : c.in_ok-rest.rest.now ≡ later_text l.later = cc in
    c.in_err-later.ensures.none l.later h.later following)

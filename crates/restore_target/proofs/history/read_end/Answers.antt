use Rattle.std.proofs.Common.{◌∙◌, ◌++◌, ◌∷◌, decimal, ap, sym, subst}
use Rattle.base_model.specs.Text.{Text}
use Rattle.repo_ini.proofs.Pieces.{cut_at-is}
use Rattle.repo_names.specs.Lsn.{IsLsn}
use Rattle.restore_target.proofs.Fields.{first_cut, second_cut, first_is, second_is}
use Rattle.restore_target.proofs.history.read_end.Goals as goal

pub returns-in_err-number-clause-none : goal.returns-in_err-number-clause-none
returns-in_err-number-clause-none c =
    rw c.from_residual.ensures (λ t at fits x. let first = first_cut c.args.line.now t at fits x in let none = c.in_err-number.ensures in cc)

pub returns-in_err-timeline-clause-none : goal.returns-in_err-timeline-clause-none
returns-in_err-timeline-clause-none c =
    rw c.from_residual-in_err-timeline.ensures (λ t at fits x. c.in_err-timeline.ensures.none t fits (first_is c.args.line.now t at fits x c.in_ok-number.number.now c.in_ok-number.more.now c.in_ok-number.ensures).0)

pub returns-in_err-place-clause-none : goal.returns-in_err-place-clause-none
returns-in_err-place-clause-none c =
    rw c.from_residual-in_err-place.ensures (λ t at fits x.
    let second = second_cut c.args.line.now t at fits x in
    let same = (first_is c.args.line.now t at fits x c.in_ok-number.number.now c.in_ok-number.more.now c.in_ok-number.ensures).1 in
    let none = c.in_err-place.ensures in
    cc)

pub returns-in_err-until-clause-none : goal.returns-in_err-until-clause-none
returns-in_err-until-clause-none c =
    rw c.from_residual-in_err-until.ensures (λ t at fits x.
    let same = second_is c.args.line.now t at fits x c.in_ok-number.number.now c.in_ok-number.more.now c.in_ok-place.place.now c.in_ok-place.field-0-1.now c.in_ok-number.ensures c.in_ok-place.ensures in
    c.in_err-until.ensures.none at (subst (λ (text : Text). IsLsn text at) (sym same) x.is_place))

pub returns-clause-value : goal.returns-clause-value
returns-clause-value c =
    let number = c.in_ok-number.number.now in
    let more = c.in_ok-number.more.now in
    let place = c.in_ok-place.place.now in
    let rest = c.in_ok-place.field-0-1.now in
    let first = cut_at-is 9 c.args.line.now (number, more) (sym c.in_ok-number.ensures) in
    let second = cut_at-is 9 more (place, rest) (sym c.in_ok-place.ensures) in
    record {
      place = place;
      reason = rest;
      is = first ∙ ap (λ (l : Text). l ++ 9 ∷ more) c.in_ok-timeline.ensures.value ∙ ap (λ (l : Text). decimal c.in_ok-timeline.timeline ++ 9 ∷ l) second;
      is_place = c.in_ok-until.ensures.value;
    }

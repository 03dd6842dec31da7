use Rattle.std.proofs.Common.{ℕ, ◌≡◌, ◌+◌, ◌++◌, refl, sym, ap, subst, ◌∙◌}
use Rattle.base_model.specs.Text.{Text}
use Rattle.restore_target.specs.Moments.{written, IsPart, IsMomentText, offset_text, seconds_east, seconds_west}
use Rattle.restore_target.specs.Views.{offset_of}
use Rattle.restore_target.proofs.Parted.{clock_found, parts_found, if_some, if_none}
use Rattle.restore_target.proofs.Writing.{same_offset}
use Rattle.restore_target.proofs.moments.read_moment.Goals as goal

pub returns-in_err-clock-clause-none : goal.returns-in_err-clock-clause-none
returns-in_err-clock-clause-none c =
    rw c.from_residual.ensures (λ second m. c.in_err-clock.ensures.none m.clock (m.part ++ offset_text m.offset) m.within (c.as_bytes.ensures.value ∙ m.is))

pub returns-then-not-is_part-clause-none : goal.returns-then-not-is_part-clause-none
returns-then-not-is_part-clause-none c second m =
    let clock = c.in_ok-clock.ensures.value in
    let is : c.args.text.now ≡ written c.in_ok-clock.clock ++ c.in_ok-clock.rest.now = sym c.as_bytes.ensures.value ∙ clock.1 in
    let found = parts_found c.args.text.now second m c.in_ok-clock.clock c.in_ok-clock.rest.now clock.0 is c.in_ok-part.part.now c.in_ok-part.rest.now (c.in_ok-part.ensures.value, c.in_ok-part.ensures.front, c.in_ok-part.ensures.rest) in
    c.if-not-is_part.ensures.none refl (subst IsPart (sym found.0) m.is_part)

pub returns-in_err-read_offset-clause-none : goal.returns-in_err-read_offset-clause-none
returns-in_err-read_offset-clause-none c =
    let clock = c.in_ok-clock.ensures.value in
    let is : c.args.text.now ≡ written c.in_ok-clock.clock ++ c.in_ok-clock.rest.now = sym c.as_bytes.ensures.value ∙ clock.1 in
    rw c.from_residual-in_err-read_offset.ensures (λ second m.
    let found = parts_found c.args.text.now second m c.in_ok-clock.clock c.in_ok-clock.rest.now clock.0 is c.in_ok-part.part.now c.in_ok-part.rest.now (c.in_ok-part.ensures.value, c.in_ok-part.ensures.front, c.in_ok-part.ensures.rest) in
    c.in_err-read_offset.ensures.none m.offset m.is_offset found.1)

pub returns-clause-value : goal.returns-clause-value
returns-clause-value c =
    let clock = c.in_ok-clock.ensures.value in
    let is : c.args.text.now ≡ written c.in_ok-clock.clock ++ c.in_ok-clock.rest.now = sym c.as_bytes.ensures.value ∙ clock.1 in
    let o = offset_of c.in_ok-read_offset.field-0 in
    let offset = c.in_ok-read_offset.ensures.value in
    let after = c.in_ok-part.ensures.value ∙ ap (λ (l : Text). c.in_ok-part.part.now ++ l) offset.1 in
    if_some c.second_of.result (λ s. s + seconds_east o ≡ c.in_ok-clock.clock + seconds_west o) (IsMomentText c.args.text.now) (λ second moment. record {
      clock = c.in_ok-clock.clock;
      within = clock.0;
      part = c.in_ok-part.part.now;
      is_part = c.if-not-is_part.ensures.some refl;
      offset = o;
      is_offset = offset.0;
      is = is ∙ ap (λ (l : Text). written c.in_ok-clock.clock ++ l) after;
      moment = moment;
    }) c.second_of.ensures.value

pub returns-clause-none : goal.returns-clause-none
returns-clause-none c =
    let clock = c.in_ok-clock.ensures.value in
    let is : c.args.text.now ≡ written c.in_ok-clock.clock ++ c.in_ok-clock.rest.now = sym c.as_bytes.ensures.value ∙ clock.1 in
    let o = offset_of c.in_ok-read_offset.field-0 in
    let offset = c.in_ok-read_offset.ensures.value in
    if_none c.second_of.result ((s : ℕ) → ¬ (s + seconds_east o ≡ c.in_ok-clock.clock + seconds_west o)) ((second : ℕ) → ¬ IsMomentText c.args.text.now second) (λ no_second second m.
    let found = parts_found c.args.text.now second m c.in_ok-clock.clock c.in_ok-clock.rest.now clock.0 is c.in_ok-part.part.now c.in_ok-part.rest.now (c.in_ok-part.ensures.value, c.in_ok-part.ensures.front, c.in_ok-part.ensures.rest) in
    let same = (clock_found c.args.text.now second m c.in_ok-clock.clock c.in_ok-clock.rest.now clock.0 is).0 in
    let far = same_offset o m.offset offset.0 m.is_offset (sym offset.1 ∙ found.1) in
    no_second second (rw (far.0, far.1, same) m.moment)) c.second_of.ensures.none

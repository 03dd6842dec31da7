use Rattle.std.proofs.Common.{sym}
use Rattle.restore_target.specs.Moments.{is_sign}
use Rattle.restore_target.proofs.Signs.{no_place, parted_at}
use Rattle.restore_target.proofs.moments.split_sign.Goals as goal

pub returns-in_err-place-clause-none : goal.returns-in_err-place-clause-none
returns-in_err-place-clause-none c = rw c.from_residual.ensures (no_place is_sign c.args.text.now (sym c.in_err-place.ensures))

pub returns-clause-value : goal.returns-clause-value
returns-clause-value c =
    rw (c.split_at.ensures.front, c.split_at.ensures.back) (parted_at c.args.text.now c.in_ok-place.place (sym c.in_ok-place.ensures)).0

pub returns-clause-front : goal.returns-clause-front
returns-clause-front c =
    rw c.split_at.ensures.front (parted_at c.args.text.now c.in_ok-place.place (sym c.in_ok-place.ensures)).1

pub returns-clause-rest : goal.returns-clause-rest
returns-clause-rest c =
    rw c.split_at.ensures.back (parted_at c.args.text.now c.in_ok-place.place (sym c.in_ok-place.ensures)).2

use Rattle.std.proofs.Common.{◌≡◌, ◌+◌, take, drop, arith, ◌∙◌, sym, subst}
use Rattle.std.specs.Str.Parse.{digits_value}
use Rattle.std.proofs.lemmas.List.{take_rest}
use Rattle.repo_names.specs.Lsn.{IsHalf}
use Rattle.repo_names.proofs.Halves.{cut_at, half_fits, slash_is, high_is, low_is}
use Rattle.repo_names.proofs.wal.positions.read_lsn.Goals as goal

pub returns-in_err-slash-clause-none : goal.returns-in_err-slash-clause-none
returns-in_err-slash-clause-none c = rw c.from_residual.ensures (λ at l. cc (c.in_err-slash.ensures, slash_is c.args.text.now at l))

pub returns-in_err-high-clause-none : goal.returns-in_err-high-clause-none
returns-in_err-high-clause-none c =
    rw c.from_residual-in_err-high.ensures (λ at l. c.in_err-high.ensures.none (subst IsHalf (sym (high_is c.args.text.now at l c.in_ok-slash.slash (sym c.in_ok-slash.ensures))) l.high_digits))

pub returns-in_err-low-clause-none : goal.returns-in_err-low-clause-none
returns-in_err-low-clause-none c =
    rw c.from_residual-in_err-low.ensures (λ at l. c.in_err-low.ensures.none (subst IsHalf (sym (take_rest c.args.text.now (c.in_ok-slash.slash + 1) ∙ low_is c.args.text.now at l c.in_ok-slash.slash (sym c.in_ok-slash.ensures))) l.low_digits))

pub returns-clause-value : goal.returns-clause-value
returns-clause-value c =
    let slash = c.in_ok-slash.slash in
    let text = c.args.text.now in
    let high = c.in_ok-high.ensures.value in
    let low_text = take_rest text (slash + 1) in
    let low = subst (λ t. IsHalf t × (c.in_ok-low.low ≡ digits_value 16 t)) low_text c.in_ok-low.ensures.value in
    record {
      high = take slash text;
      low = drop (slash + 1) text;
      is = cut_at text slash (sym c.in_ok-slash.ensures);
      high_digits = high.0;
      low_digits = low.0;
      value = omega (arith, high.1, low.1, half_fits (take slash text) high.0);
    }

use Rattle.repo_names.proofs.Halves.{IsUtf8-half, half_none}
use Rattle.repo_names.proofs.wal.positions.read_half.Goals as goal

pub returns-in_default-clause-none : goal.returns-in_default-clause-none
returns-in_default-clause-none c h = c.in_default.ensures.cases.0 (IsUtf8-half c.args.digits.now h)

pub returns-clause-none : goal.returns-clause-none
returns-clause-none c =
    let same = c.in-Ok.ensures.cases.0 in
    let got = half_none c.in-Ok.digits.now c.from_str_radix.result c.from_str_radix.ensures.value in
    rw (c.ok.ensures.value, ← same) got

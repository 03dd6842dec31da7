use Rattle.std.proofs.Common.{◌+◌, sym}
use Rattle.std.proofs.lemmas.List.{take_rest}
use Rattle.archive_lookup.proofs.Cuts.{cut_some, cut_none}
use Rattle.archive_spool.proofs.refusals.split_line.Goals as goal

pub returns-in_err-at-clause-none : goal.returns-in_err-at-clause-none
returns-in_err-at-clause-none c = rw c.from_residual.ensures (cut_none 10 c.args.bytes.now (sym c.in_err-at.ensures))

pub returns-clause-value : goal.returns-clause-value
returns-clause-value c = rw (take_rest c.args.bytes.now (c.in_ok-at.at + 1)) (cut_some 10 c.args.bytes.now c.in_ok-at.at (sym c.in_ok-at.ensures))

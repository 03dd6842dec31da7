use Rattle.std.proofs.Common.{◌+◌, drop, sym}
use Rattle.archive_lookup.proofs.Cuts.{cut_some, cut_none}
use Rattle.repo_stanza.proofs.unused.first_element.Goals as goal

pub returns-in_err-at-clause-none : goal.returns-in_err-at-clause-none
returns-in_err-at-clause-none c = rw c.from_residual.ensures (cut_none 47 c.args.path.now (sym c.in_err-at.ensures))

pub returns-clause-value : goal.returns-clause-value
returns-clause-value c = let x = cut_some 47 c.args.path.now c.in_ok-at.at (sym c.in_ok-at.ensures) in (x.1, (drop (c.in_ok-at.at + 1) c.args.path.now, x.0))

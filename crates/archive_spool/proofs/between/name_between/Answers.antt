use Rattle.std.proofs.Common.{◌++◌}
use Rattle.base_model.specs.Names.{wal_text}
use Rattle.archive_lookup.proofs.OnePath.{unstripped}
use Rattle.archive_spool.proofs.Middle.{no_end, between_value, between_none}
use Rattle.archive_spool.proofs.between.name_between.Goals as goal

pub returns-in_err-following-clause-none : goal.returns-in_err-following-clause-none
returns-in_err-following-clause-none c =
    rw c.from_residual.ensures (λ name fits e. unstripped c.args.text.now c.args.prefix.now (wal_text name ++ c.args.end.now) c.in_err-following.ensures.cases e)

pub returns-in_err-middle-clause-none : goal.returns-in_err-middle-clause-none
returns-in_err-middle-clause-none c =
    rw c.from_residual-in_err-middle.ensures (λ name fits. no_end c.args.text.now c.args.prefix.now c.in_ok-following.following.now c.args.end.now c.in_ok-following.ensures.cases.0 c.in_ok-following.ensures.cases.1 c.in_err-middle.ensures.cases name)

pub returns-clause-value : goal.returns-clause-value
returns-clause-value c =
    between_value c.args.text.now c.args.prefix.now c.in_ok-following.following.now c.args.end.now c.in_ok-following.ensures.cases.0 c.in_ok-following.ensures.cases.1 c.in_ok-middle.middle.now c.in_ok-middle.ensures.cases.0 c.in_ok-middle.ensures.cases.1
    c.read_archive_name.result c.read_archive_name.ensures.value

pub returns-clause-none : goal.returns-clause-none
returns-clause-none c =
    between_none c.args.text.now c.args.prefix.now c.in_ok-following.following.now c.args.end.now c.in_ok-following.ensures.cases.0 c.in_ok-following.ensures.cases.1 c.in_ok-middle.middle.now c.in_ok-middle.ensures.cases.0 c.in_ok-middle.ensures.cases.1
    c.read_archive_name.result c.read_archive_name.ensures.none

use Rattle.std.proofs.Common.{refl}
use Rattle.repo_stanza.specs.Judging.{Refuses, Lost, Alone, NotOf}
use Rattle.repo_stanza.proofs.Looked.{handed}
use Rattle.repo_stanza.proofs.pair_read.judge.Goals as goal

pub returns-in_err-lists_nothing-in-None-Some-clause-refused : goal.returns-in_err-lists_nothing-in-None-Some-clause-refused
returns-in_err-lists_nothing-in-None-Some-clause-refused c =
    handed c.from_residual.result c.in_err-lists_nothing-in-None-Some.field-0.0 (Refuses c.args.known.now c.args.archive c.args.backup c.args.name) c.from_residual.ensures.1
    (Lost c.in-None-Some.is-0 c.in-None-Some.backup c.in-None-Some.is-1 c.in_err-lists_nothing-in-None-Some.ensures.lost)

pub returns-in-Some-None-clause-refused : goal.returns-in-Some-None-clause-refused
returns-in-Some-None-clause-refused c = Alone c.in-Some-None.field-0-0 c.in-Some-None.is-0 c.in-Some-None.is-1 refl

pub returns-in_err-fit-in-Some-Some-clause-refused : goal.returns-in_err-fit-in-Some-Some-clause-refused
returns-in_err-fit-in-Some-Some-clause-refused c =
    handed c.from_residual-in_err-fit-in-Some-Some.result c.in_err-fit-in-Some-Some.field-0.0 (Refuses c.args.known.now c.args.archive c.args.backup c.args.name) c.from_residual-in_err-fit-in-Some-Some.ensures.1
    (NotOf c.in-Some-Some.archive c.in-Some-Some.backup c.in-Some-Some.is-0 c.in-Some-Some.is-1 c.in_err-fit-in-Some-Some.ensures.unfit)

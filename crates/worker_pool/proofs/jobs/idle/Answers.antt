use Rattle.worker_pool.proofs.Places.{read_is}
use Rattle.worker_pool.proofs.jobs.idle.Goals as goal

pub returns-in_default-clause-no : goal.returns-in_default-clause-no
returns-in_default-clause-no c = λ e i. c.in_default.not-Idle (read_is c.args.holders.now.items c.args.link _ _ i c.index.ensures)

use Rattle.std.proofs.Common.{Some, ◌∙◌, ap}
use Rattle.worker_pool.proofs.Places.{read_has}
use Rattle.worker_pool.proofs.jobs.job_of.Goals as goal

pub returns-in-Busy : goal.returns-in-Busy
returns-in-Busy c = let h = read_has _ _ _ c.requires c.index.ensures in record { some = h ∙ ap Some c.in-Busy.is; none = tt }

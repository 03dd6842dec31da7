use Rattle.std.proofs.Common.{◌/◌, arith}
use Rattle.repo_names.proofs.Dates.{date_of_day}
use Rattle.repo_names.proofs.labels.stamps.date_of.Goals as goal

pub returns : goal.returns
returns c = date_of_day (c.args.t / 86400) (omega arith) c.day_of.result c.day_of.ensures

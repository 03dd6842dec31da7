use Rattle.std.proofs.Common.{◌-◌, arith}
use Rattle.cmd_backup_common.proofs.Latest.{in_got}
use Rattle.cmd_backup_common.proofs.drafts.full_draft.current_cluster.Goals as goal

pub returns-clause-listed : goal.returns-clause-listed
returns-clause-listed c = in_got c.args.list.now.history.items (c.args.list.now.current - 1) c.index.result.now (omega (arith, c.requires.current.0, c.requires.current.1)) c.index.ensures

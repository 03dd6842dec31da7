use Rattle.std.proofs.Common.{Option, ap, sym, subst, ◌∙◌}
use Rattle.base_devices.specs.DataFolder.{Nodes, known_path}
use Rattle.base_model.specs.Names.{wal_text}
use Rattle.cmd_archive_push.specs.LogFile.{IsOpened, known_file}
use Rattle.cmd_archive_push.specs.WalPath.{wal_path}
use Rattle.cmd_archive_push.proofs.Logged.{opened_read}
use Rattle.cmd_archive_push_wait.proofs.Commanded.{file_cause_as, sum_is, sum_known}
use Rattle.cmd_archive_push_wait.proofs.log_file_sum.sum_file.Goals as goal

pub sum_of-requires-clause-known : goal.sum_of-requires-clause-known
sum_of-requires-clause-known g c =
    opened_read (g.T.DataFolder.state c.open_log_file.new.tree).nodes c.in-Ok.log _ c.prefix.result.bytes.now c.prefix.result.length c.prefix.ensures.bytes c.prefix.ensures.length
    (subst (λ (o : Option Nodes). IsOpened o (wal_path c.deref.result.now) c.in-Ok.log) (sym c.open_log_file.ensures.looks.nodes) c.in-Ok.ensures.opened)

pub returns-in-Ok-sum_of-clause-is_sum : goal.returns-in-Ok-sum_of-clause-is_sum
returns-in-Ok-sum_of-clause-is_sum g c = sum_is c.in-Ok-sum_of.ensures.sum.0 _ c.in-Ok-sum_of.ensures.sum.2

pub returns-in-Ok-sum_of-clause-sum : goal.returns-in-Ok-sum_of-clause-sum
returns-in-Ok-sum_of-clause-sum g c =
    let x = c.in-Ok-sum_of.ensures.sum in
    sum_known (known_file (g.T.DataFolder.state c.open_log_file.new.tree).nodes (known_path c.in-Ok.log.what)) x.0 _ x.1.known x.2 _
    (ap (λ (o : Option Nodes). known_file o (wal_path (wal_text c.args.order.now.name))) (sym c.open_log_file.ensures.looks.nodes)
    ∙ ap (known_file (g.T.DataFolder.state c.open_log_file.new.tree).nodes) (sym (c.in-Ok.ensures.opened.lies ∙ ap wal_path (c.deref.ensures ∙ c.args.order.now.spelled))))

pub returns-in-Err-clause-cause : goal.returns-in-Err-clause-cause
returns-in-Err-clause-cause g c = file_cause_as c.args.order.now.path.now _ (wal_text c.args.order.now.name) _ _ (g.T.DataFolder.state c.args.tree.now).nodes _
    (c.deref.ensures ∙ c.args.order.now.spelled) c.limit_of-limit.ensures.limit c.in-Err.halt
    c.of_file.result c.of_file.ensures c.in-Err.ensures.cause

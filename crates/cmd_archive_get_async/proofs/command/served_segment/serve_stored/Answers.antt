use Rattle.std.proofs.Common.{Some, subst}
use Rattle.cmd_types.specs.declared.stages.outcome.Outcome.{Outcome}
use Rattle.cmd_archive_get.specs.Getting.{GotBy, IsServed, served_path}
use Rattle.cmd_archive_get.proofs.Folders.{changes_as}
use Rattle.cmd_archive_get_async.specs.Getting.{IsServedBySum}
use Rattle.cmd_archive_get_async.proofs.Summed.{served_summed, serves_summed}
use Rattle.cmd_archive_get_async.proofs.command.served_segment.serve_stored.Goals as goal

pub returns-in-Ok-Finished-clause-serves : goal.returns-in-Ok-Finished-clause-serves
returns-in-Ok-Finished-clause-serves g c =
    let o = c.args.order.now in
    let repo = (g.D.Disk.state c.args.repo.now).view.now in
    let nodes = (g.T.DataFolder.state c.args.tree.now).nodes in
    let after = (g.T.DataFolder.state c.get_file.new.tree).nodes in
    let got = subst (λ (x : Outcome). GotBy c.args.stanza.now o.folder.now o.word.now o.path.now repo nodes after x) c.in-Ok-Finished.field-0-is c.in-Ok-Finished.ensures.got in
    serves_summed c.args.stanza.now o.folder.now o.word.now o.path.now repo nodes after got.1

pub returns-in-Ok-Finished-clause-lasts : goal.returns-in-Ok-Finished-clause-lasts
returns-in-Ok-Finished-clause-lasts g c = λ synced some alike f leaves.
    let o = c.args.order.now in
    let nodes = (g.T.DataFolder.state c.args.tree.now).nodes in
    let after = (g.T.DataFolder.state c.get_file.new.tree).nodes in
    let got = subst (λ (x : Outcome). GotBy c.args.stanza.now o.folder.now o.word.now o.path.now (Some f) nodes after x) c.in-Ok-Finished.field-0-is (c.in-Ok-Finished.ensures.lasts synced some alike f leaves) in
    serves_summed c.args.stanza.now o.folder.now o.word.now o.path.now (Some f) nodes after got.1

pub returns-in-Ok-Finished-clause-changes : goal.returns-in-Ok-Finished-clause-changes
returns-in-Ok-Finished-clause-changes g c =
    let o = c.args.order.now in
    let repo = (g.D.Disk.state c.args.repo.now).view.now in
    let nodes = (g.T.DataFolder.state c.args.tree.now).nodes in
    changes_as (served_path o.folder.now o.path.now) (IsServed c.args.stanza.now o.folder.now o.word.now o.path.now repo nodes) (IsServedBySum c.args.stanza.now o.folder.now o.word.now o.path.now repo nodes) nodes _
    (served_summed c.args.stanza.now o.folder.now o.word.now o.path.now repo nodes) c.get_file.ensures.changes

pub returns-in-Ok-Absent-clause-lasts : goal.returns-in-Ok-Absent-clause-lasts
returns-in-Ok-Absent-clause-lasts g c = λ synced some alike f leaves.
    let o = c.args.order.now in
    let nodes = (g.T.DataFolder.state c.args.tree.now).nodes in
    let after = (g.T.DataFolder.state c.get_file.new.tree).nodes in
    let got = subst (λ (x : Outcome). GotBy c.args.stanza.now o.folder.now o.word.now o.path.now (Some f) nodes after x) c.in-Ok-Absent.field-0-is (c.in-Ok-Absent.ensures.lasts synced some alike f leaves) in
    got.1

pub returns-in-Err-clause-changes : goal.returns-in-Err-clause-changes
returns-in-Err-clause-changes g c =
    let o = c.args.order.now in
    let repo = (g.D.Disk.state c.args.repo.now).view.now in
    let nodes = (g.T.DataFolder.state c.args.tree.now).nodes in
    changes_as (served_path o.folder.now o.path.now) (IsServed c.args.stanza.now o.folder.now o.word.now o.path.now repo nodes) (IsServedBySum c.args.stanza.now o.folder.now o.word.now o.path.now repo nodes) nodes _
    (served_summed c.args.stanza.now o.folder.now o.word.now o.path.now repo nodes) c.get_file.ensures.changes

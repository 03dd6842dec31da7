use Rattle.std.proofs.Common.{sym, map}
use Rattle.restore_steps.proofs.Placing.{temporary_placed}
use Rattle.restore_steps.specs.Clearing.{control_path}
use Rattle.restore_make.specs.Finished.{waiting_path}
use Rattle.base_model.specs.Values.{file_entry_of}
use Rattle.restore_make.proofs.Fetched.{away_still, entry_begun}
use Rattle.restore_make.proofs.Names.{not_temporary}
use Rattle.restore_steps.specs.Files.{temporary_path}
use Rattle.restore_make.proofs.control.stage.Goals as goal

pub returns-then-file-eq0-clause-others : goal.returns-then-file-eq0-clause-others
returns-then-file-eq0-clause-others g c = λ q off _. c.begin_timed.ensures.others q off

pub returns-then-file-eq0-clause-clean : goal.returns-then-file-eq0-clause-clean
returns-then-file-eq0-clause-clean g c =
    away_still (temporary_path waiting_path) (g.T.DataFolder.state c.args.tree.now).nodes (g.T.DataFolder.state c.begin_timed.new.tree).nodes
    (c.begin_timed.ensures.others (temporary_path waiting_path) (λ e. not_temporary waiting_path (sym e)))

pub returns-then-file-eq0-clause-proper : goal.returns-then-file-eq0-clause-proper
returns-then-file-eq0-clause-proper g c = λ placed. c.begin_timed.ensures.proper (temporary_placed control_path (g.T.DataFolder.state c.args.tree.now).nodes placed)

pub returns-clause-proper : goal.returns-clause-proper
returns-clause-proper g c = λ placed. c.fetch.ensures.proper (temporary_placed control_path (g.T.DataFolder.state c.args.tree.now).nodes placed)

pub returns-in_err-begin_timed-clause-proper : goal.returns-in_err-begin_timed-clause-proper
returns-in_err-begin_timed-clause-proper g c = λ placed. c.begin_timed.ensures.proper (temporary_placed control_path (g.T.DataFolder.state c.args.tree.now).nodes placed)

pub returns-then-file-eq0-clause-waits : goal.returns-then-file-eq0-clause-waits
returns-then-file-eq0-clause-waits g c =
    let new = (g.T.DataFolder.state c.begin_timed.new.tree).nodes in
    entry_begun c.args.file.now.stanza.now c.args.file.now.own.now (map g.L.Link.link_state c.args.pool.now.links.items) (file_entry_of c.args.file.now.entry.now) waiting_path new c.requires.entry c.if-file-eq0.true c.in_ok-begin_timed.ensures.there

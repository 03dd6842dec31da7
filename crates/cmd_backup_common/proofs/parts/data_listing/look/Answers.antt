use Rattle.std.proofs.Common.{◌≡◌, List, true, false, sym, ◌∙◌, ap}
use Rattle.std.specs.List.{list_any}
use Rattle.base_devices.specs.declared.data_folder.FolderEntry as rust_seen
use Rattle.cmd_backup_common.proofs.Beginnings.{is_pid, look_stops, is_there, is_not_there}
use Rattle.cmd_backup_common.proofs.parts.data_listing.look.Goals as goal

pub returns-in-Err-clause-cause : goal.returns-in-Err-clause-cause
returns-in-Err-clause-cause g c = look_stops (g.T.DataFolder.state c.args.tree.now).nodes _ _ c.list.result c.in-Err.stop c.halted.result
    c.in-Err.is c.list.ensures.cause c.halted.ensures

pub returns-then-is_running-clause-cause : goal.returns-then-is_running-clause-cause
returns-then-is_running-clause-cause g c =
    let any : list_any is_pid c.in-Ok.seen.items ≡ true = ap (λ (ss : List rust_seen.FolderEntry). list_any is_pid ss) (sym c.deref.ensures.value) ∙ sym c.is_running.ensures ∙ c.if-is_running.true in
    is_there (g.T.DataFolder.state c.args.tree.now).nodes c.in-Ok.seen.items c.in-Ok.ensures.listing any

pub returns-clause-stopped : goal.returns-clause-stopped
returns-clause-stopped g c =
    let none : list_any is_pid c.in-Ok.seen.items ≡ false = ap (λ (ss : List rust_seen.FolderEntry). list_any is_pid ss) (sym c.deref.ensures.value) ∙ sym c.is_running.ensures ∙ c.if-is_running.false in
    is_not_there (g.T.DataFolder.state c.args.tree.now).nodes c.in-Ok.seen.items c.in-Ok.ensures.listing none

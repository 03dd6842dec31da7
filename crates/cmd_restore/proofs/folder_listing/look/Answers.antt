use Rattle.std.proofs.Common.{List, map, subst}
use Rattle.base_devices.specs.Cause.{Rises}
use Rattle.base_devices.specs.declared.data_folder.FolderEntry.{FolderEntry}
use Rattle.restore_steps.specs.Clearing.{seen_of}
use Rattle.cmd_types.specs.declared.stages.object.Object.TheVariants.{TheDataFolder}
use Rattle.cmd_types.specs.Halts.{HaltCause, Only}
use Rattle.cmd_restore.specs.Looking.{IsSeenOpen, FolderCause, SeenCause}
use Rattle.restore_choice.proofs.Halts.{halt_as, ends_with, none_failed}
use Rattle.cmd_restore.proofs.Listings.{opened, seen_cause}
use Rattle.cmd_restore.proofs.folder_listing.look.Goals as goal

pub returns-in_err-check_folder-clause-cause : goal.returns-in_err-check_folder-clause-cause
returns-in_err-check_folder-clause-cause g c =
    let delta = c.args.delta in
    let nodes = (g.T.DataFolder.state c.args.tree.now).nodes in
    let rose = Only TheDataFolder (Rises (g.T.DataFolder.state c.args.tree.now).faults (g.T.DataFolder.state c.list.new.self).faults) in
    let halt = c.in_err-check_folder.field-0.0 in
    let seen = c.in-Ok.seen.items in
    let cause = subst (λ (ss : List FolderEntry). HaltCause (SeenCause delta (map seen_of ss)) (λ _. ⊥) halt) c.deref.ensures.value c.in_err-check_folder.ensures.cause in
    ends_with (HaltCause (FolderCause delta nodes) rose) c.from_residual.result halt c.from_residual.ensures.1
    (halt_as (SeenCause delta (map seen_of seen)) (FolderCause delta nodes) (λ _. ⊥) rose (seen_cause delta nodes (map seen_of seen) c.in-Ok.ensures.listing) (none_failed rose) halt cause)

pub returns-clause-open : goal.returns-clause-open
returns-clause-open g c =
    let delta = c.args.delta in
    let nodes = (g.T.DataFolder.state c.args.tree.now).nodes in
    let seen = c.in-Ok.seen.items in
    opened delta nodes (map seen_of seen) c.in-Ok.ensures.listing (subst (λ (ss : List FolderEntry). IsSeenOpen delta (map seen_of ss)) c.deref.ensures.value c.in_ok-check_folder.ensures.open)

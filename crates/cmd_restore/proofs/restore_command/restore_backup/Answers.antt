use Rattle.std.proofs.Common.{map, take, string_bytes, subst, Option}
use Rattle.std.specs.Prelude.{IfSome}
use Rattle.base_devices.specs.Cause.{Rises}
use Rattle.base_devices.specs.Content.{Content}
use Rattle.base_devices.specs.DataFolder.{Nodes}
use Rattle.base_model.specs.Values.{backup_info_of, manifest_of}
use Rattle.restore_make.specs.Finished.{IsFinished}
use Rattle.cmd_types.specs.declared.stages.object.Object.TheVariants.{TheDataFolder}
use Rattle.cmd_types.specs.Halts.{HaltCause, Only}
use Rattle.cmd_types.specs.Risen.{none, rose_in}
use Rattle.restore_choice.specs.Choosing.{IsChosen}
use Rattle.restore_choice.specs.Loading.{HasManifest}
use Rattle.restore_choice.proofs.Halts.{halt_as, ends_with, rises_from}
use Rattle.cmd_restore.specs.Causes.{RestoreCommandCause}
use Rattle.cmd_restore.specs.Fetching.{recovery_type, options_by}
use Rattle.cmd_restore.specs.Filling.{FillCause}
use Rattle.cmd_restore.specs.Restoring.{Before, Chooses, Recovers}
use Rattle.cmd_restore.proofs.Causing.{on_list, fill_restores, folder_fails}
use Rattle.cmd_restore.proofs.Giving.{gives_backup}
use Rattle.cmd_restore.proofs.restore_command.restore_backup.Goals as goal

pub returns-in_err-fill-clause-cause : goal.returns-in_err-fill-clause-cause
returns-in_err-fill-clause-cause g c =
    let stanza = c.args.stanza.now in
    let choice = c.args.order.now.choice in
    let repo = (g.D.Disk.state c.args.repo.now).view.now in
    let b : Before = record { stanza = stanza; choice = choice; repo = repo; nodes = (g.T.DataFolder.state c.args.tree.now).nodes; used = take c.args.order.now.workers (map g.L.Link.link_state c.args.pool.now.links.items); options = options_by stanza c.args.order.now.delta (recovery_type c.args.order.now.recovery) } in
    let label = c.in-Ok.chosen.label in
    let m = manifest_of c.in-Ok-manifest_for.manifest in
    let first = (g.T.DataFolder.state c.args.tree.now).faults in
    let old = (g.T.DataFolder.state c.look.new.tree).faults in
    let new = (g.T.DataFolder.state c.fill.new.tree).faults in
    let repo_rose = Rises (g.D.Disk.state c.args.repo.now).faults (g.D.Disk.state c.manifest_for.new.repo).faults in
    let rose = rose_in (record none { repo = repo_rose; tree = Rises first new }) in
    let halt = c.in_err-fill.field-0.0 in
    let chosen : Chooses b label = on_list stanza repo (backup_info_of c.args.pairs.backup.now) c.requires.backup.0 (λ f v. IsChosen stanza choice f v label) c.in-Ok.ensures.chosen in
    let has = subst (λ (o : Option Content). IfSome o (HasManifest stanza label m)) c.in-Ok.ensures.looks.now c.in-Ok-manifest_for.ensures.found in
    ends_with (HaltCause (RestoreCommandCause b) rose) c.from_residual-in_err-fill.result halt c.from_residual-in_err-fill.ensures.1
    (halt_as (FillCause stanza m b.used) (RestoreCommandCause b) (Only TheDataFolder (Rises old new)) rose
    (fill_restores b label chosen c.in_ok-seen.ensures.open m has)
    (folder_fails repo_rose (Rises first new) (Rises old new) (rises_from first old new c.in_ok-seen.ensures.looks.later))
    halt c.in_err-fill.ensures.cause)

pub returns-clause-given : goal.returns-clause-given
returns-clause-given g c = λ s f known now.
    let stanza = c.args.stanza.now in
    let choice = c.args.order.now.choice in
    let repo = (g.D.Disk.state c.args.repo.now).view.now in
    let b : Before = record { stanza = stanza; choice = choice; repo = repo; nodes = (g.T.DataFolder.state c.args.tree.now).nodes; used = take c.args.order.now.workers (map g.L.Link.link_state c.args.pool.now.links.items); options = options_by stanza c.args.order.now.delta (recovery_type c.args.order.now.recovery) } in
    let label = c.in-Ok.chosen.label in
    let m = manifest_of c.in-Ok-manifest_for.manifest in
    let nodes = (g.T.DataFolder.state c.fill.new.tree).nodes in
    let recovers : Recovers b nodes (string_bytes c.in-Ok-restored_line.lines) = record {
      label = label;
      line = c.in-Ok-restored_line.ensures;
      chosen = on_list stanza repo (backup_info_of c.args.pairs.backup.now) c.requires.backup.0 (λ f v. IsChosen stanza choice f v label) c.in-Ok.ensures.chosen;
      open_before = c.in_ok-seen.ensures.open;
      manifest = m;
      has = subst (λ (o : Option Content). IfSome o (HasManifest stanza label m)) c.in-Ok.ensures.looks.now c.in-Ok-manifest_for.ensures.found;
      finished = subst (λ (x : Option Nodes). IfSome nodes (IsFinished stanza b.used b.options m x)) c.in_ok-seen.ensures.looks.nodes c.in_ok-fill.ensures.finished;
    } in
    gives_backup b nodes (string_bytes c.in-Ok-restored_line.lines) recovers s f known now

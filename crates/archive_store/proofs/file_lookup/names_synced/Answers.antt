use Rattle.std.proofs.Common.{subst}
use Rattle.base_devices.specs.Content.{Name, LiesDirectlyIn}
use Rattle.base_devices.specs.Moments.{SyncsFolders}
use Rattle.archive_store.proofs.PushedEach.{settles_paths}
use Rattle.archive_store.proofs.file_lookup.names_synced.Goals as goal

pub returns-clause-settled : goal.returns-clause-settled
returns-clause-settled g c =
    let old = (g.D.Disk.state c.args.d.now).view in
    let new = (g.D.Disk.state c.sync_directory.new.self).view in
    settles_paths c.args.stanza.now c.args.id c.args.name.now c.in_ok-names.names c.in_ok-names.ensures.names old new
    (subst (λ (folder : Name). SyncsFolders (LiesDirectlyIn folder) old new) c.as_str.ensures.value c.in_ok-sync_directory.ensures.settled)

use Rattle.std.proofs.Common.{◌∙◌, subst}
use Rattle.base_devices.specs.Content.{LiesDirectlyIn}
use Rattle.base_devices.specs.Moments.{SyncsFolders}
use Rattle.base_model.specs.Text.{Text}
use Rattle.cmd_archive_push_async.proofs.files.mark_sync.sync_marks.Goals as goal

pub returns-in-Ok-sync_directory-clause-settled : goal.returns-in-Ok-sync_directory-clause-settled
returns-in-Ok-sync_directory-clause-settled g c = subst (λ (t : Text). SyncsFolders (LiesDirectlyIn t) (g.S.Disk.state c.args.spool.now).view (g.S.Disk.state c.sync_directory.new.self).view) (c.as_str.ensures.value ∙ c.in-Ok.ensures.ok) c.in-Ok-sync_directory.ensures.settled

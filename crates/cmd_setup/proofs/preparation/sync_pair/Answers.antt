use Rattle.std.proofs.Common.{◌∙◌, subst}
use Rattle.base_devices.specs.Content.{LiesDirectlyIn}
use Rattle.base_devices.specs.Moments.{SyncsFolders}
use Rattle.base_model.specs.Text.{Text}
use Rattle.cmd_setup.proofs.Begun.{pair_settles}
use Rattle.cmd_setup.proofs.preparation.sync_pair.Goals as goal

pub returns-in-Ok-clause-settled : goal.returns-in-Ok-clause-settled
returns-in-Ok-clause-settled g c = subst (λ (n : Text). SyncsFolders (LiesDirectlyIn n) (g.D.Disk.state c.args.repo.now).view (g.D.Disk.state c.sync_directory.new.self).view) (c.deref.ensures ∙ c.in_ok-folder.ensures) c.in-Ok.ensures.settled

pub returns-in-Ok-clause-members : goal.returns-in-Ok-clause-members
returns-in-Ok-clause-members g c = pair_settles c.args.stanza.now (g.D.Disk.state c.args.repo.now).view (g.D.Disk.state c.sync_directory.new.self).view (returns-in-Ok-clause-settled g c)

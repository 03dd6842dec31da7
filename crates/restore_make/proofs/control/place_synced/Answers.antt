use Rattle.std.proofs.Common.{◌∙◌, ap, option_map}
use Rattle.restore_steps.specs.Clearing.{control_path}
use Rattle.restore_make.specs.Finished.{waiting_path}
use Rattle.restore_make.proofs.Finished.{on_ok_three}
use Rattle.restore_make.proofs.Synced.{all_synced}
use Rattle.restore_make.proofs.control.place_synced.Goals as goal

pub returns-clause-synced : goal.returns-clause-synced
returns-clause-synced g c = on_ok_three c.rename_synced.result _ _ _ _
    (λ source target both. all_synced waiting_path control_path (g.T.DataFolder.state c.sync.new.self) (g.T.DataFolder.state c.rename_synced.new.self) c.in_ok-sync.ensures.all c.rename_synced.ensures.synced source target)
    c.rename_synced.ensures.source c.rename_synced.ensures.target c.rename_synced.ensures.target

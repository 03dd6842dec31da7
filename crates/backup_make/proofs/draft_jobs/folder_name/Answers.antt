use Rattle.std.proofs.Common.{◌∷◌, ◌++◌, ap, ◌∙◌}
use Rattle.std.specs.Prelude.{codes}
use Rattle.base_model.specs.Text.{Text}
use Rattle.backup_make.proofs.draft_jobs.folder_name.Goals as goal

pub returns : goal.returns
returns c = c.in_ok-format.ensures.ok ∙ ap (λ (t : Text). codes "backup/" ++ c.args.stanza.now ++ 47 ∷ t) c.in_ok-label.ensures

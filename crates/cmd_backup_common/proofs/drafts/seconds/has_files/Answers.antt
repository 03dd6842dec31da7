use Rattle.std.proofs.Common.{◌<◌, ◌∙◌, length, subst, arith}
use Rattle.std.specs.Prelude.{IfSome}
use Rattle.std.proofs.lemmas.Bool.Decides.{nat_tests}
use Rattle.base_model.specs.Text.{Text}
use Rattle.cmd_backup_common.specs.Seconds.{HasFilesBelow}
use Rattle.cmd_backup_common.proofs.Latest.{lists_files}
use Rattle.cmd_backup_common.proofs.drafts.seconds.has_files.Goals as goal

pub returns-in-Ok-clause-files : goal.returns-in-Ok-clause-files
returns-in-Ok-clause-files g c = λ some.
    let now = (g.D.Disk.state c.args.d.now).view.now in
    let few : 0 < length c.in-Ok.found.items = grind (arith, nat_tests, c.is_empty.ensures, some, c.in-Ok.found.ok.0) in
    subst (λ (t : Text). IfSome now (HasFilesBelow t)) (c.deref.ensures ∙ c.in_ok-folder.ensures.ok) (lists_files c.deref.result.now now c.in-Ok.found.items few c.in-Ok.ensures.listing)

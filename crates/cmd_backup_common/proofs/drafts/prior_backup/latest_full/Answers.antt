use Rattle.std.proofs.Common.{◌≡◌, ◌∙◌, arith}
use Rattle.std.specs.Prelude.{max}
use Rattle.cmd_backup_common.proofs.Priors.{latest_passed}
use Rattle.cmd_backup_common.proofs.drafts.prior_backup.latest_full.Goals as goal

pub loop-entry-preserved : goal.loop-entry-preserved
loop-entry-preserved c =
    let same : c.max-latest.result ≡ max c.entry-item.result.label.full c.loop-entry.latest = omega (arith, c.max-latest.ensures) in
    same ∙ latest_passed c.args.backups.now c.loop-entry.entry-index c.entry-item.result c.loop-entry-test.true c.entry-item.is c.loop-entry.latest c.loop-entry.invariant

use Rattle.std.proofs.Common.{◌≡◌, ◌⊎◌, ◌+◌, ◌∙◌, ℕ, inr, map, take, sym, subst, arith}
use Rattle.base_model.specs.Values.{entry_of}
use Rattle.backup_record.specs.Making.{labels_of}
use Rattle.cmd_backup_common.specs.Seconds.{ListsSecond}
use Rattle.cmd_backup_common.proofs.Latest.{latest_more, latest_own, latest_kept}
use Rattle.cmd_backup_common.proofs.drafts.seconds.latest_listed.Goals.{then-second-latest, else-second-latest}
use Rattle.cmd_backup_common.proofs.drafts.seconds.latest_listed.Goals as goal

pub loop-entry-preserved : goal.loop-entry-preserved
loop-entry-preserved c =
    let listed = c.args.backups.now in
    let i = c.loop-entry.entry-index in
    let x = c.entry-item.result in
    let less = c.loop-entry-test.true in
    let is = c.entry-item.is in
    let was = c.loop-entry.invariant in
    let own = c.second_of-second.ensures in
    let last = c.if-second-latest.latest in
    elim c.if-second-latest.branch [
      | then-second-latest w ↦ let same = w.latest-is in let more = w.if-second-latest.true in record {
        before = latest_more listed i c.loop-entry.latest x less is was.before last (omega (arith, same, own)) (omega (arith, same, more));
        listed = inr (latest_own listed i x less is last (same ∙ own));
      }
      | else-second-latest w ↦ let same = w.latest-is in let less_eq = w.if-second-latest.false in record {
        before = latest_more listed i c.loop-entry.latest x less is was.before last (omega (arith, same, own, less_eq)) (omega (arith, same));
        listed = subst (λ (n : ℕ). (n ≡ 0) ⊎ ListsSecond (labels_of (map entry_of (take (i + 1) listed))) n) (sym same) (latest_kept listed i c.loop-entry.latest x less is was.listed);
      }
    ]

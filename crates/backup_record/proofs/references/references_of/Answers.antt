use Rattle.std.proofs.Common.{◌≡◌, ◌≢◌, ◌∙◌, sym, ap, Bool, true, false}
use Rattle.backup_record.proofs.Referring.{each_taken, each_left, order_taken, order_left, end_each, taken_items, left_items}
use Rattle.backup_record.proofs.references.references_of.Goals as goal
use Rattle.backup_record.proofs.references.references_of.Goals.{then-is_among+in_ok-push, else-is_among}

pub loop-backup-preserved : goal.loop-backup-preserved
loop-backup-preserved c =
    let listed = c.args.listed.now in
    let i = c.loop-backup.backup-index in
    let x = c.backup-item.result in
    let labels = c.args.labels.now in
    let refs = c.loop-backup.references.items in
    elim c.if-is_among.branch [
      | then-is_among+in_ok-push w ↦ taken_items listed i x c.loop-backup-test.true c.backup-item.is labels refs c.loop-backup.invariant.each c.loop-backup.invariant.order c.if-is_among.references.items (ap (λ v. v.items) w.references-is ∙ w.in_ok-push.ensures.items) (c.is_among.ensures.0 w.if-is_among.true)
      | else-is_among w ↦ left_items listed i x c.loop-backup-test.true c.backup-item.is labels refs c.loop-backup.invariant.each c.loop-backup.invariant.order c.if-is_among.references.items (ap (λ v. v.items) w.references-is) (λ k. let t = c.is_among.ensures.1 k in let both : ◌≡◌ {A = Bool} true false = sym t ∙ w.if-is_among.false in cc)
    ]

pub returns-clause-each : goal.returns-clause-each
returns-clause-each c = end_each c.args.listed.now c.loop-backup.backup-index c.args.labels.now c.loop-backup.references.items c.loop-backup-test.false c.loop-backup.invariant.each

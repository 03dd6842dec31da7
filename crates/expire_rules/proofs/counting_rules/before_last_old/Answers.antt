use Rattle.std.proofs.Common.{◌+◌, ap, ◌∙◌, sym, length, arith}
use Rattle.expire_rules.specs.Condemned.{before_last, is_old}
use Rattle.expire_rules.proofs.Firsts.{other_count, full_count, old_count, young_count}
use Rattle.expire_rules.proofs.counting_rules.before_last_old.Goals as goal
use Rattle.expire_rules.proofs.counting_rules.before_last_old.Goals.{then-is_full, then-is_old, else-is_old, else-is_full}

pub loop-entry-preserved : goal.loop-entry-preserved
loop-entry-preserved c =
    let at = c.loop-entry.entry-index in
    let es = c.args.entries.now in
    let so_far = c.loop-entry.invariant in
    elim c.if-is_full.branch [
      | then-is_full w ↦
          let on = sym c.is_full.ensures ∙ w.if-is_full.true in
          let more = w.fulls-is ∙ ap (λ n. n + 1) so_far.0 ∙ sym (full_count c.args.moment c.args.days es at c.entry-item.result c.loop-entry-test.true c.entry-item.is on) in (
            more,
            w.before-is ∙ elim w.if-is_old.branch [
              | then-is_old v ↦ v.before-is ∙ so_far.0 ∙ ap length (sym (old_count c.args.moment c.args.days es at c.entry-item.result c.loop-entry-test.true c.entry-item.is on (sym w.is_old.ensures ∙ v.if-is_old.true)))
              | else-is_old v ↦ v.before-is ∙ so_far.1 ∙ ap length (sym (young_count c.args.moment c.args.days es at c.entry-item.result c.loop-entry-test.true c.entry-item.is on (sym w.is_old.ensures ∙ v.if-is_old.false)))
            ],
            let low = so_far.2 in let is = w.fulls-is in omega arith,
          )
      | else-is_full w ↦
          let same = other_count c.args.moment c.args.days es at c.entry-item.result c.loop-entry-test.true c.entry-item.is (sym c.is_full.ensures ∙ w.if-is_full.false) in (
            w.fulls-is ∙ so_far.0 ∙ ap length (sym same),
            w.before-is ∙ so_far.1 ∙ ap (λ l. length (before_last (is_old c.args.moment c.args.days) l)) (sym same),
            let low = so_far.2 in let is = w.fulls-is in omega arith,
          )
    ]

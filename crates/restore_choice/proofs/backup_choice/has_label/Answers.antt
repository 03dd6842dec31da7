use Rattle.std.proofs.Common.{rules, ◌≡◌, ◌≢◌}
use Rattle.base_model.specs.Values.{entry_of}
use Rattle.repo_keys.proofs.Seeking.{here, whole_next, ahead_next, ahead_end}
use Rattle.restore_choice.proofs.backup_choice.has_label.Goals as goal

pub returns-then-eq-clause-some : goal.returns-then-eq-clause-some
returns-then-eq-clause-some c = λ t.
    let e = c.entry-item.result in
    let same : e.label ≡ c.args.label.now = search rules in
    (entry_of e, here entry_of c.args.backups.now c.loop-entry.entry-index e c.loop-entry-test.true c.entry-item.is c.loop-entry.invariant.whole, same)

pub loop-entry-preserved : goal.loop-entry-preserved
loop-entry-preserved c =
    let e = c.entry-item.result in
    let other : e.label ≢ c.args.label.now = search rules in
    record {
      ahead = ahead_next entry_of (λ e. e.label ≡ c.args.label.now) c.args.backups.now c.loop-entry.entry-index e c.loop-entry-test.true c.entry-item.is other c.loop-entry.invariant.ahead;
      whole = whole_next entry_of c.args.backups.now c.loop-entry.entry-index e c.loop-entry-test.true c.entry-item.is c.loop-entry.invariant.whole;
    }

pub returns-clause-none : goal.returns-clause-none
returns-clause-none c = λ t e at same. ahead_end entry_of (λ e. e.label ≡ c.args.label.now) c.args.backups.now c.loop-entry.entry-index c.loop-entry-test.false c.loop-entry.invariant.ahead e at same

use Rattle.std.proofs.Common.{◌≡◌}
use Rattle.base_model.specs.Values.{entry_of}
use Rattle.repo_keys.proofs.Seeking.{here, whole_next, ahead_next, ahead_end}
use Rattle.repo_stanza.proofs.pair_rules.lists_cluster.Goals as goal

pub returns-then-entry-id-clause-some : goal.returns-then-entry-id-clause-some
returns-then-entry-id-clause-some c = λ t.
    let e = c.entry-item.result in
    (entry_of e, here entry_of c.args.backups.now c.loop-entry.entry-index e c.loop-entry-test.true c.entry-item.is c.loop-entry.invariant.whole, c.if-entry-id.true)

pub loop-entry-preserved : goal.loop-entry-preserved
loop-entry-preserved c =
    let e = c.entry-item.result in
    record {
      ahead = ahead_next entry_of (λ e. e.db ≡ c.args.id) c.args.backups.now c.loop-entry.entry-index e c.loop-entry-test.true c.entry-item.is c.if-entry-id.false c.loop-entry.invariant.ahead;
      whole = whole_next entry_of c.args.backups.now c.loop-entry.entry-index e c.loop-entry-test.true c.entry-item.is c.loop-entry.invariant.whole;
    }

pub returns-clause-none : goal.returns-clause-none
returns-clause-none c = λ t e at same. ahead_end entry_of (λ e. e.db ≡ c.args.id) c.args.backups.now c.loop-entry.entry-index c.loop-entry-test.false c.loop-entry.invariant.ahead e at same

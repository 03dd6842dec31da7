use Rattle.std.proofs.Common.{inr, refl, map, drop, subst, ◌+◌, List, ⊎_elim}
use Rattle.base_model.specs.declared.wal.ArchiveId.{ArchiveId}
use Rattle.base_model.specs.Text.{In}
use Rattle.base_model.specs.Values.{entry_of}
use Rattle.repo_keys.proofs.Seeking.{ended}
use Rattle.expire_make.specs.Unneeded.{ids_in, id_in}
use Rattle.expire_make.proofs.Losses.{takes_none, takes_on, takes_goes}
use Rattle.expire_make.proofs.Counts.{counted_none, counted_on}
use Rattle.expire_make.proofs.Tellings.{Unneeds, GoneEach, each_next, ahead_of}
use Rattle.expire_make.proofs.archive_removal.forget_each.Goals as goal

pub loop-cluster-init : goal.loop-cluster-init
loop-cluster-init g c = record { gone = λ stanza prefix_is n u i. inr i; counts = λ known. counted_none (Unneeds c.args.prefix.now c.args.rules.now c.args.current (map entry_of c.args.entries.now)) _ _ refl; takes = takes_none (Unneeds c.args.prefix.now c.args.rules.now c.args.current (map entry_of c.args.entries.now)) _ }

pub returns-in_err-forget_under-clause-takes : goal.returns-in_err-forget_under-clause-takes
returns-in_err-forget_under-clause-takes g c = takes_on (Unneeds c.args.prefix.now c.args.rules.now c.args.current (map entry_of c.args.entries.now)) _ _ _ c.loop-cluster.invariant.takes c.forget_under.ensures.takes

pub loop-cluster-preserved : goal.loop-cluster-preserved
loop-cluster-preserved g c =
    let ahead = ahead_of c.args.history.now c.loop-cluster.cluster-index _ c.id_of-id.result c.loop-cluster-test.true c.id_of-id.ensures in
    let so_far = subst (λ (xs : List ArchiveId). GoneEach c.args.prefix.now c.args.rules.now c.args.current (map entry_of c.args.entries.now) (ids_in c.args.history.now) xs (g.D.Disk.state c.loop-cluster.d).view.now) ahead c.loop-cluster.invariant.gone in
    record {
      gone = each_next c.args.prefix.now c.args.rules.now c.args.current (map entry_of c.args.entries.now) (ids_in c.args.history.now) c.id_of-id.result (ids_in (drop (c.loop-cluster.cluster-index + 1) c.args.history.now)) _ _ c.forget_under.ensures.takes c.in_ok-forget_under.ensures.gone so_far;
      counts = λ known. counted_on (Unneeds c.args.prefix.now c.args.rules.now c.args.current (map entry_of c.args.entries.now)) _ _ _ _ _ _ c.saturating_add-removed.ensures (c.loop-cluster.invariant.counts known) (c.in_ok-forget_under.ensures.counts ((takes_goes (Unneeds c.args.prefix.now c.args.rules.now c.args.current (map entry_of c.args.entries.now)) _ _ c.loop-cluster.invariant.takes).known known));
      takes = takes_on (Unneeds c.args.prefix.now c.args.rules.now c.args.current (map entry_of c.args.entries.now)) _ _ _ c.loop-cluster.invariant.takes c.forget_under.ensures.takes;
    }

pub returns-clause-gone : goal.returns-clause-gone
returns-clause-gone g c = λ stanza prefix_is n u i. ⊎_elim (λ h. h)
    (λ j. absurd (subst (λ xs. In u.id (ids_in xs)) (ended id_in c.args.history.now c.loop-cluster.cluster-index c.loop-cluster-test.false) j)) (c.loop-cluster.invariant.gone stanza prefix_is n u i)

pub returns-clause-counts : goal.returns-clause-counts
returns-clause-counts g c = c.loop-cluster.invariant.counts

use Rattle.std.proofs.Common.{refl, subst}
use Rattle.base_devices.specs.Crash.{Crash, Ends, NowChanges, FirstOf, AllOf}
use Rattle.base_model.specs.declared.clusters.Cluster.{Cluster}
use Rattle.base_model.specs.InfoFiles.{IsCluster}
use Rattle.base_model.specs.Create.{pair_writes}
use Rattle.base_model.proofs.Made.{made_members}
use Rattle.repo_stanza.specs.ControlFile.{first_cluster}
use Rattle.repo_stanza.specs.Synced.{AreSynced}
use Rattle.repo_stanza.proofs.NewStanza.{none_now, made_part, made_whole, made_moves, made_steady}
use Rattle.repo_stanza.proofs.making.make_stanza.Goals as goal

pub returns-in_err-save_pairs-clause-new : goal.returns-in_err-save_pairs-clause-new
returns-in_err-save_pairs-clause-new g c = none_now c.args.stanza.now _ c.requires

pub returns-clause-new : goal.returns-clause-new
returns-clause-new g c = none_now c.args.stanza.now _ c.requires

pub returns-in_err-save_pairs-clause-part : goal.returns-in_err-save_pairs-clause-part
returns-in_err-save_pairs-clause-part g c =
    let of = subst IsCluster c.first_cluster-cluster.ensures.value c.first_cluster-cluster.ensures.is_cluster in
    made_part c.args.stanza.now (first_cluster c.args.control.now) of refl _ _ c.requires
    (subst (λ (x : Cluster). NowChanges (FirstOf (pair_writes c.args.stanza.now x)) (g.D.Disk.state c.args.d.now).view.now (g.D.Disk.state c.save_pairs.new.d).view.now) c.first_cluster-cluster.ensures.value c.save_pairs.ensures.now_part)

pub returns-clause-part : goal.returns-clause-part
returns-clause-part g c =
    let of = subst IsCluster c.first_cluster-cluster.ensures.value c.first_cluster-cluster.ensures.is_cluster in
    made_part c.args.stanza.now (first_cluster c.args.control.now) of refl _ _ c.requires
    (subst (λ (x : Cluster). NowChanges (FirstOf (pair_writes c.args.stanza.now x)) (g.D.Disk.state c.args.d.now).view.now (g.D.Disk.state c.save_pairs.new.d).view.now) c.first_cluster-cluster.ensures.value c.save_pairs.ensures.now_part)

pub returns-clause-done : goal.returns-clause-done
returns-clause-done g c =
    let of = subst IsCluster c.first_cluster-cluster.ensures.value c.first_cluster-cluster.ensures.is_cluster in
    made_whole c.args.stanza.now (first_cluster c.args.control.now) of refl _ _ c.requires
    (subst (λ (x : Cluster). NowChanges (AllOf (pair_writes c.args.stanza.now x)) (g.D.Disk.state c.args.d.now).view.now (g.D.Disk.state c.save_pairs.new.d).view.now) c.first_cluster-cluster.ensures.value c.in_ok-save_pairs.ensures.now_whole)

pub returns-clause-members : goal.returns-clause-members
returns-clause-members g c = λ some.
    made_members c.args.stanza.now (first_cluster c.args.control.now) _ _ some
    (subst (λ (x : Cluster). NowChanges (AllOf (pair_writes c.args.stanza.now x)) (g.D.Disk.state c.args.d.now).view.now (g.D.Disk.state c.save_pairs.new.d).view.now) c.first_cluster-cluster.ensures.value c.in_ok-save_pairs.ensures.now_whole)

pub returns-in_err-save_pairs-clause-moves : goal.returns-in_err-save_pairs-clause-moves
returns-in_err-save_pairs-clause-moves g c = λ r steady known.
    let of = subst IsCluster c.first_cluster-cluster.ensures.value c.first_cluster-cluster.ensures.is_cluster in
    made_moves c.args.stanza.now (first_cluster c.args.control.now) of refl _ _ known c.requires
    (subst (λ (x : Cluster). AreSynced c.args.stanza.now (g.D.Disk.state c.args.d.now).view → Crash (FirstOf (pair_writes c.args.stanza.now x)) (g.D.Disk.state c.args.d.now).view (g.D.Disk.state c.save_pairs.new.d).view) c.first_cluster-cluster.ensures.value c.save_pairs.ensures.crash) r steady

pub returns-clause-moves : goal.returns-clause-moves
returns-clause-moves g c = λ r steady known.
    let of = subst IsCluster c.first_cluster-cluster.ensures.value c.first_cluster-cluster.ensures.is_cluster in
    made_moves c.args.stanza.now (first_cluster c.args.control.now) of refl _ _ known c.requires
    (subst (λ (x : Cluster). AreSynced c.args.stanza.now (g.D.Disk.state c.args.d.now).view → Crash (FirstOf (pair_writes c.args.stanza.now x)) (g.D.Disk.state c.args.d.now).view (g.D.Disk.state c.save_pairs.new.d).view) c.first_cluster-cluster.ensures.value c.save_pairs.ensures.crash) r steady

pub returns-clause-made : goal.returns-clause-made
returns-clause-made g c = λ r steady known.
    let of = subst IsCluster c.first_cluster-cluster.ensures.value c.first_cluster-cluster.ensures.is_cluster in
    made_steady c.args.stanza.now (first_cluster c.args.control.now) of refl _ _ known c.requires
    (subst (λ (x : Cluster). AreSynced c.args.stanza.now (g.D.Disk.state c.args.d.now).view → Crash (FirstOf (pair_writes c.args.stanza.now x)) (g.D.Disk.state c.args.d.now).view (g.D.Disk.state c.save_pairs.new.d).view) c.first_cluster-cluster.ensures.value c.save_pairs.ensures.crash)
    (subst (λ (x : Cluster). AreSynced c.args.stanza.now (g.D.Disk.state c.args.d.now).view → Ends (AllOf (pair_writes c.args.stanza.now x)) (g.D.Disk.state c.args.d.now).view (g.D.Disk.state c.save_pairs.new.d).view) c.first_cluster-cluster.ensures.value c.in_ok-save_pairs.ensures.whole) r steady

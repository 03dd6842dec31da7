use Rattle.std.proofs.Common.{◌≡◌, ◌∙◌, ap, ◌++◌, map, get_or, subst, Option, List, rules}
use Rattle.std.specs.Prelude.{IfSome}
use Rattle.base_devices.specs.Content.{Content}
use Rattle.base_model.specs.declared.wal.Segment.{Segment}
use Rattle.archive_lookup.specs.Ends.{AreEnds}
use Rattle.base_model.specs.declared.clusters.ClusterId.{ClusterId}
use Rattle.cmd_types.specs.Current.{id_kept}
use Rattle.cmd_info.specs.Reporting.{named}
use Rattle.cmd_info.proofs.EndNames.{step_ends}
use Rattle.base_devices.proofs.States.{looks_on}
use Rattle.cmd_info.proofs.command.info.end_names.Goals as goal

pub loop-cluster-preserved : goal.loop-cluster-preserved
loop-cluster-preserved g c =
    let i = c.loop-cluster.invariant in
    let id = c.archive_id-id.result in
    let none : ClusterId = record { id = 0; system = 0; version = 0 } in
    let model : id ≡ id_kept (get_or c.args.history.now c.loop-cluster.cluster-index none) = search rules in
    let found = c.in_ok-segments.segments.items in
    let ends = subst (λ (o : Option Content). IfSome o (λ f. AreEnds c.args.stanza.now id f found)) i.looks.now c.in_ok-segments.ensures.ends in
    record {
      ends = step_ends c.args.stanza.now (g.D.Disk.state c.args.repo.now).view.now c.args.history.now c.loop-cluster.cluster-index none id c.loop-cluster.names.items c.add_names.new.names.items found
          c.loop-cluster-test.true model i.ends ends
          (c.in_ok-add_names.ensures ∙ ap (λ (s : List Segment). c.loop-cluster.names.items ++ map (named id) s) c.deref.ensures.value);
      looks = looks_on _ _ _ i.looks c.ends_under.ensures.looks;
    }

use Rattle.std.proofs.Common.{[], ◌∙◌}
use Rattle.base_disk.specs.Staged.{staging_name}
use Rattle.archive_store.proofs.Putting.{staged_more, begun_again, staged_again}
use Rattle.archive_store.proofs.staging.stage_from.Goals as goal

pub add_rest-requires-clause-begun : goal.add_rest-requires-clause-begun
add_rest-requires-clause-begun g c =
    let first = c.args.prefix.bytes.now in
    begun_again c.args.temp.now _ first (g.D.Disk.state c.args.d.now).view.now _ (c.add_stage.ensures.name ∙ c.in_ok-staging.ensures.name)
    (staged_more c.args.temp.now (staging_name c.in_ok-staging.staging) [] first (g.D.Disk.state c.args.d.now).view.now (g.D.Disk.state c.start_stage.new.d).view.now _ c.in_ok-staging.ensures.name c.in_ok-staging.ensures.now c.in_ok-add_stage.ensures.now)

pub returns-clause-staged : goal.returns-clause-staged
returns-clause-staged g c =
    let w = c.in_ok-sum.ensures.staged in
    let first = c.args.prefix.bytes.now in (
      w.0,
      w.1,
      w.2,
      staged_again c.args.temp.now _ first w.0 (g.D.Disk.state c.args.d.now).view.now _ _ (c.add_stage.ensures.name ∙ c.in_ok-staging.ensures.name)
          (staged_more c.args.temp.now (staging_name c.in_ok-staging.staging) [] first (g.D.Disk.state c.args.d.now).view.now (g.D.Disk.state c.start_stage.new.d).view.now _ c.in_ok-staging.ensures.name c.in_ok-staging.ensures.now c.in_ok-add_stage.ensures.now)
          w.3,
    )

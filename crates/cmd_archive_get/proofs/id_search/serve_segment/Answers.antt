use Rattle.std.specs.Prelude.{OnOk}
use Rattle.cmd_archive_get.proofs.Left.{ends_alike_on, on_any}
use Rattle.cmd_archive_get.proofs.id_search.serve_segment.Goals as goal

pub returns-in-Ok-Some-clause-alike : goal.returns-in-Ok-Some-clause-alike
returns-in-Ok-Some-clause-alike g c = let h = c.serve_stored.ensures.looks in
    on_any c.serve_stored.result _ (ends_alike_on c.args.stanza.now c.args.id.now c.args.order.now.name (g.D.Disk.state c.args.repo.now).view (g.D.Disk.state c.present.new.d).view (g.D.Disk.state c.serve_stored.new.repo).view h.time h.now c.in-Ok-Some.ensures.alike)

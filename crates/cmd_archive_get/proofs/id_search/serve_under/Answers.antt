use Rattle.std.proofs.Common.{rules, refl}
use Rattle.cmd_types.specs.Current.{id_kept}
use Rattle.cmd_archive_get.specs.Getting.{IsSame}
use Rattle.cmd_archive_get.proofs.Left.{puts_left, puts_under}
use Rattle.cmd_archive_get.proofs.id_search.serve_under.Goals as goal

pub returns-then-has_sum-clause-puts : goal.returns-then-has_sum-clause-puts
returns-then-has_sum-clause-puts g c = λ f left.
    let o = c.args.order.now in
    let e = c.serve_segment.ensures in
    let id = id_kept c.args.cluster.now in
    let same : IsSame c.args.known.now c.args.cluster.now = search rules in
    puts_under c.args.stanza.now c.args.cluster.now c.args.known.now o.name f same id refl c.serve_segment.result o.inside.now _ _
    (puts_left c.args.stanza.now id o.name (g.D.Disk.state c.args.repo.now).view (g.D.Disk.state c.serve_segment.new.repo).view e.looks.now c.serve_segment.result e.alike o.inside.now _ _ e.puts f left)

pub returns-else-has_sum-clause-puts : goal.returns-else-has_sum-clause-puts
returns-else-has_sum-clause-puts g c = λ f left.
    let o = c.args.order.now in
    let e = c.serve_whole.ensures in
    let id = id_kept c.args.cluster.now in
    let same : IsSame c.args.known.now c.args.cluster.now = search rules in
    puts_under c.args.stanza.now c.args.cluster.now c.args.known.now o.name f same id refl c.serve_whole.result o.inside.now _ _
    (puts_left c.args.stanza.now id o.name (g.D.Disk.state c.args.repo.now).view (g.D.Disk.state c.serve_whole.new.repo).view e.looks.now c.serve_whole.result e.alike o.inside.now _ _ e.puts f left)

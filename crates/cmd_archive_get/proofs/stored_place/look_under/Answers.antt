use Rattle.std.proofs.Common.{rules, refl}
use Rattle.cmd_types.specs.Current.{id_kept}
use Rattle.cmd_archive_get.specs.Getting.{IsSame}
use Rattle.cmd_archive_get.proofs.LookedFor.{finds_left, under_finds}
use Rattle.cmd_archive_get.proofs.stored_place.look_under.Goals as goal

pub returns-in-Ok-clause-finds : goal.returns-in-Ok-clause-finds
returns-in-Ok-clause-finds g c = λ f left.
    let same : IsSame c.args.known.now c.args.cluster.now = search rules in
    let p = c.in-Ok.ensures in
    under_finds c.args.stanza.now c.args.cluster.now c.args.known.now c.args.name.now same c.in-Ok.found f
    (finds_left c.args.stanza.now (id_kept c.args.cluster.now) c.args.name.now (g.D.Disk.state c.args.repo.now).view (g.D.Disk.state c.present.new.d).view c.present.ensures.looks.now p.alike c.in-Ok.found f left p.finds)

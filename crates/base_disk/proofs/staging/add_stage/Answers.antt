use Rattle.std.proofs.Common.{string_bytes}
use Rattle.base_disk.proofs.Lengths.{has_more}
use Rattle.base_disk.proofs.staging.add_stage.Goals as goal

pub returns-clause-holds : goal.returns-clause-holds
returns-clause-holds g c =
    let staging = c.args.staging.now in
    has_more (string_bytes staging.name) c.deref.result.now staging.length c.args.bytes.now (g.D.Disk.state c.args.d.now).view.now (g.D.Disk.state c.append.new.self).view.now c.deref.ensures c.in_ok-append.ensures.now c.requires.holds

use Rattle.std.proofs.Common.{take}
use Rattle.std.specs.Prelude.{IfSome}
use Rattle.base_devices.specs.States.{OnlyReads}
use Rattle.cmd_info.specs.Reporting.{HaveEnds}
use Rattle.cmd_info.proofs.command.info.end_names.Given as goal

abbrev pub invariant-loop-cluster : goal.invariant-loop-cluster
invariant-loop-cluster g l = let D = g.D.Disk in record {
  ends : IfSome (D.state l.fn.repo).view.now (λ f. HaveEnds l.stanza (take l.cluster-index l.history) f l.names.items);
  looks : OnlyReads (D.state l.fn.repo) (D.state l.repo);
}

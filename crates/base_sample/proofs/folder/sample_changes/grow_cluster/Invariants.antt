use Rattle.std.proofs.Common.{◌≡◌, ◌≤◌}
use Rattle.base_devices.specs.Content.{Content}
use Rattle.base_sample.specs.Folder.{made, grown_by}
use Rattle.base_sample.specs.Having.{Has, KeepsOthers}
use Rattle.base_sample.proofs.folder.sample_changes.grow_cluster.Given as goal

abbrev pub invariant-loop-count : goal.invariant-loop-count
invariant-loop-count g l =
    let was = g.T.DataFolder.state l.fn.tree in
    let now = g.T.DataFolder.state l.tree in
    record {
      grown : (c : Content) → Has c was.nodes → Has (grown_by l.count c) now.nodes;
      others : KeepsOthers l.number was.nodes now.nodes;
      proper : Has (made l.number) was.nodes → now.faulty_calls ≡ was.faulty_calls;
      opened : now.opened ≡ was.opened;
      later : was.faults ≤ now.faults;
    }

use Rattle.std.proofs.Common.{◌≡◌, ◌≤◌, None}
use Rattle.base_devices.specs.Content.{Name, at}
use Rattle.base_sample.specs.Folder.{relations}
use Rattle.base_sample.specs.Having.{Has, nothing}
use Rattle.base_sample.proofs.folder.sample_files.write_relations.Given as goal

abbrev pub invariant-loop-place : goal.invariant-loop-place
invariant-loop-place g l =
    let was = g.T.DataFolder.state l.fn.tree in
    let now = g.T.DataFolder.state l.tree in
    record {
      has : Has nothing was.nodes → Has (relations l.place) now.nodes;
      others : (q : Name) → relations l.count q ≡ None → at q now.nodes ≡ at q was.nodes;
      proper : Has nothing was.nodes → now.faulty_calls ≡ was.faulty_calls;
      opened : now.opened ≡ was.opened;
      later : was.faults ≤ now.faults;
    }

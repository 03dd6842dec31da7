use Rattle.std.proofs.Common.{◌≡◌, ◌≤◌, map, drop, length, option_map}
use Rattle.std.specs.Prelude.{IfSome}
use Rattle.base_devices.specs.Content.{at}
use Rattle.base_model.specs.Text.{Text}
use Rattle.base_model.specs.Values.{manifest_of}
use Rattle.restore_steps.specs.Clearing.{control_path, without, seen_of, IsSpared, IsListed, HaveTheirFolders, StaysNone}
use Rattle.restore_steps.proofs.folders.folder_setup.clear.Given as goal

abbrev pub invariant-loop-left : goal.invariant-loop-left
invariant-loop-left g l =
    let was = g.T.DataFolder.state l.fn.tree in
    let now = g.T.DataFolder.state l.tree in
    let m = manifest_of l.manifest in
    let ss = map seen_of l.seen in
    record {
      within : l.left ≤ length l.seen;
      cleared : now.nodes ≡ option_map (without m (map seen_of (drop l.left l.seen))) was.nodes;
      others : (q : Text) → IsSpared m ss q → at q now.nodes ≡ at q was.nodes;
      control : StaysNone control_path was.nodes now.nodes;
      proper : IfSome was.nodes (IsListed ss) → HaveTheirFolders m → now.faulty_calls ≡ was.faulty_calls;
      opened : now.opened ≡ was.opened;
      later : was.faults ≤ now.faults;
    }

abbrev pub decreases-loop-left : goal.decreases-loop-left
decreases-loop-left g l = l.left

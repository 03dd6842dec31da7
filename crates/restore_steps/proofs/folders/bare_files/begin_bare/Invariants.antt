use Rattle.std.proofs.Common.{ℕ, ◌≡◌, ◌≤◌, true, map, take, [], IfSome}
use Rattle.std.specs.Prelude.{◌≢◌}
use Rattle.base_devices.specs.Content.{at}
use Rattle.base_model.specs.Text.{Text, In}
use Rattle.base_model.specs.Values.{FileEntry, file_entry_of}
use Rattle.restore_steps.specs.Clearing.{is_bare, ArePlaced, Bares}
use Rattle.restore_steps.proofs.folders.bare_files.begin_bare.Given as goal

abbrev pub invariant-loop-file : goal.invariant-loop-file
invariant-loop-file g l = let T = g.T.DataFolder in record {
  bares : Bares (map file_entry_of (take l.file-index l.files)) (T.state l.fn.tree).nodes (T.state l.tree).nodes;
  proper : ArePlaced (map file_entry_of l.files) (T.state l.fn.tree).nodes → (T.state l.tree).faulty_calls ≡ (T.state l.fn.tree).faulty_calls;
  opened : (T.state l.tree).opened ≡ (T.state l.fn.tree).opened;
  later : (T.state l.fn.tree).faults ≤ (T.state l.tree).faults;
}

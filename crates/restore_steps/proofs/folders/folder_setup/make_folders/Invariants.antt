use Rattle.std.proofs.Common.{◌≡◌, ◌≤◌, true, map, take, option_map, string_bytes}
use Rattle.base_devices.specs.Content.{at}
use Rattle.base_devices.specs.Order.{are_in_order}
use Rattle.base_model.specs.ManifestText.{HasItsFolders}
use Rattle.base_model.specs.Text.{Text, In}
use Rattle.restore_steps.specs.Clearing.{control_path, with_folders, StaysNone}
use Rattle.restore_steps.proofs.folders.folder_setup.make_folders.Given as goal

abbrev pub invariant-loop-folder : goal.invariant-loop-folder
invariant-loop-folder g l =
    let was = g.T.DataFolder.state l.fn.tree in
    let now = g.T.DataFolder.state l.tree in
    let fs = map string_bytes l.folders in
    record {
      made : now.nodes ≡ option_map (with_folders (map string_bytes (take l.folder-index l.folders))) was.nodes;
      others : (q : Text) → ¬ In q fs → at q now.nodes ≡ at q was.nodes;
      control : StaysNone control_path was.nodes now.nodes;
      proper : are_in_order fs ≡ true → ((p : Text) → In p fs → HasItsFolders fs p) → now.faulty_calls ≡ was.faulty_calls;
      opened : now.opened ≡ was.opened;
      later : was.faults ≤ now.faults;
    }

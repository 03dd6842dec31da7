use Rattle.std.proofs.Common.{◌≡◌, map, take}
use Rattle.std.specs.Prelude.{◌≢◌}
use Rattle.base_model.specs.Text.{In}
use Rattle.base_model.specs.Values.{FileEntry, file_entry_of}
use Rattle.restore_steps.specs.Clearing.{control_path}
use Rattle.restore_make.proofs.control.control_of.Given as goal

abbrev pub invariant-loop-file : goal.invariant-loop-file
invariant-loop-file l = (e : FileEntry) → In e (map file_entry_of (take l.file-index l.files)) → e.path ≢ control_path

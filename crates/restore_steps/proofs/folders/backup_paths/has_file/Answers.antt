use Rattle.std.proofs.Common.{◌∙◌, map}
use Rattle.base_model.specs.Values.{file_entry_of}
use Rattle.restore_steps.proofs.Paths.{has_found}
use Rattle.restore_steps.proofs.folders.backup_paths.has_file.Goals as goal

pub returns : goal.returns
returns c = c.is_some.ensures ∙ has_found (λ e. file_entry_of e.now) c.find_entry.result (map file_entry_of c.args.files.now) c.args.path.now c.find_entry.ensures

use Rattle.std.proofs.Common.{◌∙◌}
use Rattle.archive_lookup.proofs.Bounding.{sorted_are_folders}
use Rattle.archive_lookup.proofs.stored.bounds.sorted_folders.Goals as goal

pub returns-clause-folders : goal.returns-clause-folders
returns-clause-folders g c = sorted_are_folders _ _ (g.D.Disk.state c.args.d.now).view.now _ c.sort.new.self.items (c.as_str.ensures.value ∙ c.in_ok-place.ensures) c.in_ok-folders.ensures.folders c.in_ok-sort.ensures.permutation

use Rattle.archive_lookup.proofs.OnePath.{folder_got, in_folder}
use Rattle.archive_lookup.proofs.stored.paths.folder_of.Goals as goal

pub returns-in-Segment : goal.returns-in-Segment
returns-in-Segment c = λ sum is. folder_got c.args.name.now sum c.args.file.now c.get.result is (in_folder c.args.name.now c.in-Segment.is) c.get.ensures.lookup.0

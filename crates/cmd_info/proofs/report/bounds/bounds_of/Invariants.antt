use Rattle.std.proofs.Common.{◌≡◌, drop}
use Rattle.cmd_info.specs.Archived.{segments_under, lesser, greater, least, greatest}
use Rattle.cmd_info.specs.Bounds.{reduce_on, first_name, last_name}
use Rattle.cmd_info.proofs.report.bounds.bounds_of.Given as goal

-- the files so far and those to come are the whole
abbrev pub invariant-loop-file : goal.invariant-loop-file
invariant-loop-file l =
    let rest = segments_under l.id (drop l.file-index l.archived) in
    let all = segments_under l.id l.archived in
    record {
      first : reduce_on lesser (first_name l.bounds) rest ≡ least all;
      last : reduce_on greater (last_name l.bounds) rest ≡ greatest all;
    }

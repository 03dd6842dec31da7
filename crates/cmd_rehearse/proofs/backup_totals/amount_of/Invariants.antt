use Rattle.std.proofs.Common.{◌≡◌, ◌≤◌, map, take, length, filter}
use Rattle.base_model.specs.Values.{file_entry_of}
use Rattle.backup_record.specs.Making.{size_of}
use Rattle.cmd_rehearse.specs.Counting.{is_counted}
use Rattle.cmd_rehearse.proofs.backup_totals.amount_of.Given as goal

-- those of the files so far that are counted
abbrev pub invariant-loop-file : goal.invariant-loop-file
invariant-loop-file l = record {
  few : l.count ≤ l.file-index;
  count : l.count ≡ length (filter (is_counted l.counted) (map file_entry_of (take l.file-index l.files)));
  bytes : l.bytes ≡ size_of (filter (is_counted l.counted) (map file_entry_of (take l.file-index l.files)));
}

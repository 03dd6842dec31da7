use Rattle.std.proofs.Common.{◌≡◌, map, take}
use Rattle.base_model.specs.Values.{file_entry_of}
use Rattle.backup_record.specs.Making as making
use Rattle.backup_record.proofs.sizes.own_size_of.Given as goal

-- the bytes of those of the files so far that refer to no other backup
abbrev pub invariant-loop-file : goal.invariant-loop-file
invariant-loop-file l = l.size ≡ making.stored_of (map file_entry_of (take l.file-index l.files))

use Rattle.std.proofs.Common.{map, string_bytes}
use Rattle.base_model.specs.Values.{file_entry_of}
use Rattle.repo_keys.proofs.Seeking.{Whole, Others}
use Rattle.repo_manifest.specs.Sections.{IsPlaced}
use Rattle.repo_manifest.proofs.cross_rules.check_files.Given as goal

-- a file is placed, or is to come
abbrev pub invariant-loop-file : goal.invariant-loop-file
invariant-loop-file l = record {
  whole : Whole file_entry_of l.files l.file-index;
  others : Others file_entry_of (IsPlaced (map string_bytes l.folders)) l.files l.file-index;
}

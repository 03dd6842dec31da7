use Rattle.std.proofs.Common.{◌≡◌, ◌≤◌, ◌^◌, map, take, sum_by}
use Rattle.base_model.specs.Values.{FileEntry, file_entry_of}
use Rattle.repo_manifest.proofs.sizes.past.Given as goal

-- the sum of the sizes so far
abbrev pub invariant-loop-file : goal.invariant-loop-file
invariant-loop-file l = record {
  total : l.total ≡ sum_by (λ (e : FileEntry). e.size) (map file_entry_of (take l.file-index l.files));
  within : l.total ≤ 2 ^ 63;
}

-- The bytes of files.
use Rattle.std.proofs.Common.{◌≡◌, ℕ, ◌+◌, ◌<◌, ◌≤◌, List, map, take, length, get_or, ap, ◌∙◌, arith}
use Rattle.std.proofs.lemmas.List.{take-map}
use Rattle.std.proofs.lemmas.List.Sums.{sum_by-take-le, sum_by_push}
use Rattle.backup_plan.specs.declared.values.Taken as rust
use Rattle.backup_plan.specs.Listed.{Taken}
use Rattle.backup_plan.specs.Filter.{size_of}
use Rattle.backup_plan.specs.Views.{taken_of}
use Rattle.backup_plan.proofs.Lists.{passed}

-- those before a file and the file itself are part of all
pub reach : (files : List rust.Taken) (i : ℕ) (x : rust.Taken) → i < length files → x ≡ get_or files i x → size_of (map taken_of (take i files)) + x.size ≤ size_of (map taken_of files)
reach files i x less is =
    let size = λ (f : Taken). f.size in
    let more = ap size_of (passed taken_of files i x less is) ∙ sum_by_push size (map taken_of (take i files)) (taken_of x) in
    let part = sum_by-take-le size (map taken_of files) (i + 1) in
    let same = ap size_of (take-map taken_of (i + 1) files) in
    omega (arith, more, part, same)

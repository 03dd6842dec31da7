-- What keeps the rules is short enough for its length fields.
use Rattle.std.proofs.Common.{ℕ, zero, suc, ◌≤◌, ◌<◌, ◌^◌, List, [], ◌∷◌, arith, length, slice_index_or, string_bytes}
use Rattle.std.specs.List.{AllByRecursion}
use Rattle.base_model.specs.Text.{Text}
use Rattle.worker_protocol.specs.declared.frames.frames.Item.{Item}
use Rattle.worker_protocol.specs.declared.frames.frames.Root.{Root}
use Rattle.worker_protocol.specs.declared.frames.frames.Root.TheVariants.{DataFolder, Repo}
use Rattle.worker_protocol.specs.Views.{items_of}
use Rattle.worker_protocol.specs.Frames.{FitsItem, IsItemPath, part_size, job_limit, repo_limit}

pub path_short : (root : Root) (path : Text) → IsItemPath root path → length path < 2 ^ 16
unfolding repo_limit
path_short DataFolder path good = omega (arith, good.short)
path_short Repo path good = omega (arith, good.short)

pub paths_short : (is : List Item) → AllByRecursion FitsItem (items_of is) → (k : ℕ) (d : Item) → k < length is → length (string_bytes (slice_index_or is k d).path) < 2 ^ 16
paths_short [] h k d lt = absurd (omega arith)
paths_short (i ∷ is) h zero d lt = path_short i.root (string_bytes i.path) h.0.path
paths_short (i ∷ is) h (suc k) d lt = paths_short is h.1 k d (omega arith)

pub job_short : (n : ℕ) → n ≤ job_limit → n < 2 ^ 32
unfolding job_limit
job_short n h = omega arith

pub part_short : (n : ℕ) → n ≤ part_size → n < 2 ^ 32
unfolding part_size
part_short n h = omega arith

-- Which files of a listing a backup has.
use Rattle.std.specs.Prelude.{◌≡◌, ◌⊎◌, List}
use Rattle.base_devices.specs.Links.{LinkState}
use Rattle.base_model.specs.Text.{In}
use Rattle.base_model.specs.Values.{FileEntry}
use Rattle.worker_pool.specs.Digests.{IsAbsentBy}
use Rattle.backup_plan.specs.Layout.{item_for}
use Rattle.backup_plan.specs.Listed.{Taken}

-- one of these entries is the listed file's, or one of these links reported that the file is absent
abbrev pub IsKeptUnlessAbsent : List LinkState → List FileEntry → Taken → Type 0
IsKeptUnlessAbsent links entries f = ((e : FileEntry) × In e entries × (e.path ≡ f.path))
    ⊎ IsAbsentBy links (item_for f)

-- Where the bytes of a job's items lie. Own.
use Rattle.std.specs.Prelude.{◌≡◌, ◌<◌, ◌+◌, ℕ, List, [], ◌∷◌, length, take, Some, IsSome, IsSomeAnd, slice_get}
use Rattle.base_devices.specs.Content.{Name, Content}
use Rattle.base_devices.specs.Moments.{View}
use Rattle.base_devices.specs.Crash.{Leaves}
use Rattle.base_model.specs.Place.{LiesAt}
use Rattle.worker_protocol.specs.PartSinkState.{Done, JobItems}

-- how many bytes were received of these items
abbrev pub held_sum : List Done → ℕ
held_sum [] = 0
held_sum (d ∷ ds) = d.held.count + held_sum ds

-- each item that has bytes lies after those before it, at its job's name
pub record IsPlaced (names : List Name) (kept : List JobItems) (g : Content) : Type 0 where
  pub placed : (j i : ℕ) (n : Name) (k : JobItems) (d : Done) → slice_get names j ≡ Some n → slice_get kept j ≡ Some k
      → slice_get k.done i ≡ Some d → 0 < d.held.count
      → IsSomeAnd d.held.known (λ bytes. LiesAt g (n, held_sum (take i k.done)) bytes × (length bytes ≡ d.held.count))

-- so it is in all that the disk holds or a crash now leaves
abbrev pub IsPlacedIn : List Name → List JobItems → View → Type 0
IsPlacedIn names kept v = IsSome v.now → (g : Content) → Leaves v v.moment g → IsPlaced names kept g

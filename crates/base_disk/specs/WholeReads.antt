-- What a read of all of a name's bytes gives.
use Rattle.std.specs.Prelude.{◌≡◌, ◌≤◌, ◌<◌, ℕ, Option, Vec, option_map, IfSome, IsSomeAnd, length}
use Rattle.std.specs.declared.alloc.Global.{Global}
use Rattle.base_devices.specs.Content.{Name}
use Rattle.base_devices.specs.States.{DiskState}

-- the bytes that the name has, or none where it is absent, and they are within the limit, where that is known
abbrev pub ReadsWhole : Name → ℕ → DiskState → Option (Vec ℕ Global) → Type 0
ReadsWhole name limit disk answer = IfSome disk.view.now (λ f.
    (option_map (λ (v : Vec ℕ Global). v.items) answer ≡ f name) × IfSome (f name) (λ b. length b ≤ limit))

-- the name has more bytes than the limit, where that is known
abbrev pub IsPastLimit : Name → ℕ → DiskState → Type 0
IsPastLimit name limit disk = IfSome disk.view.now (λ f. IsSomeAnd (f name) (λ b. limit < length b))

-- Names that are removed.
use Rattle.std.specs.Prelude.{◌≡◌, ◌⊎◌, Bool, true, false, List, Option, None, option_map, IfSome, IsTrue, All, if◌then◌else◌, nat_eq, string_bytes}
use Rattle.std.specs.List.{starts_with}
use Rattle.base_devices.specs.declared.disk.Found.{Found}
use Rattle.base_devices.specs.Content.{Name, Value, Content, at, is_below}
use Rattle.base_devices.specs.Moments.{MayKeep, is_unsynced}
use Rattle.base_devices.specs.States.{DiskState, Works}

-- without the names below the folder
abbrev pub without : Name → Content → Content
without folder f q = if is_below folder q then None else f q

-- nothing is there, where that is known
abbrev pub IsAbsent : Option Content → Name → Type 0
IsAbsent content name = IfSome content (λ f. f name ≡ None)

-- each name that passes is as before or absent, and each other is as before
abbrev pub Drops : (Name → Bool) → Option Content → Option Content → Type 0
Drops passes old new = (q : Name) → (at q new ≡ at q old)
    ⊎ (IsTrue (passes q) × (at q new ≡ option_map (λ _. None) old))

-- a crash leaves nothing at each of these names that wasn't unsynced
abbrev pub StaysGone : (Name → Type 0) → DiskState → DiskState → Type 0
StaysGone these old new = (n : Name) (v : Value) → these n → is_unsynced old.view n ≡ false → MayKeep new.view n v
    → v ≡ None

-- a call that adds no more than that these names are absent
abbrev pub OnlyRemoves : (Name → Type 0) → DiskState → DiskState → Type 0
OnlyRemoves these old new = Works (λ n v. these n × (v ≡ None)) (λ _. ⊥) old new

-- each of the listed names that begins with this is absent
abbrev pub AreRemoved : Name → List Found → DiskState → Type 0
AreRemoved prefix found disk = All (λ x. starts_with nat_eq (string_bytes x.name) prefix ≡ true
    → IsAbsent disk.view.now (string_bytes x.name)) found

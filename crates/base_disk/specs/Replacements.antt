-- What is left where a name is given other bytes, and where two names are given the same, one after the other.
use Rattle.std.specs.Prelude.{◌≡◌, ◌⊎◌, [], ◌∷◌, false}
use Rattle.base_devices.specs.Content.{Name}
use Rattle.base_devices.specs.Moments.{is_unsynced}
use Rattle.base_devices.specs.Crash.{Crash, Ends, NowChanges, FirstOf, AllOf}
use Rattle.base_devices.specs.States.{DiskState}
use Rattle.base_model.specs.Text.{Text}
use Rattle.base_disk.specs.Store.{ChangesOnly}

-- at each moment a crash leaves the name as before or with these bytes whole, if it wasn't unsynced
abbrev pub MayReplace : Name → Text → DiskState → DiskState → Type 0
MayReplace name bytes old new = is_unsynced old.view name ≡ false
    → Crash (FirstOf ((name, bytes) ∷ [])) old.view new.view

-- a crash at the end leaves it with these bytes, if it wasn't unsynced
abbrev pub Replaces : Name → Text → DiskState → DiskState → Type 0
Replaces name bytes old new = is_unsynced old.view name ≡ false → Ends (AllOf ((name, bytes) ∷ [])) old.view new.view

-- the disk holds the name as before or with these bytes
abbrev pub NowMayReplace : Name → Text → DiskState → DiskState → Type 0
NowMayReplace name bytes old new = NowChanges (FirstOf ((name, bytes) ∷ [])) old.view.now new.view.now

-- it holds the name with these bytes
abbrev pub NowReplaces : Name → Text → DiskState → DiskState → Type 0
NowReplaces name bytes old new = NowChanges (AllOf ((name, bytes) ∷ [])) old.view.now new.view.now

-- at each moment a crash leaves both as before, the one with these bytes, or both, if neither was unsynced
abbrev pub MayReplaceBoth : Name → Name → Text → DiskState → DiskState → Type 0
MayReplaceBoth main copy bytes old new = is_unsynced old.view main ≡ false → is_unsynced old.view copy ≡ false
    → Crash (FirstOf ((main, bytes) ∷ (copy, bytes) ∷ [])) old.view new.view

-- a crash at the end leaves both with these bytes, if neither was unsynced
abbrev pub ReplacesBoth : Name → Name → Text → DiskState → DiskState → Type 0
ReplacesBoth main copy bytes old new = is_unsynced old.view main ≡ false → is_unsynced old.view copy ≡ false
    → Ends (AllOf ((main, bytes) ∷ (copy, bytes) ∷ [])) old.view new.view

-- the disk holds both as before, the one with these bytes, or both
abbrev pub NowMayReplaceBoth : Name → Name → Text → DiskState → DiskState → Type 0
NowMayReplaceBoth main copy bytes old new =
    NowChanges (FirstOf ((main, bytes) ∷ (copy, bytes) ∷ [])) old.view.now new.view.now

-- it holds both with these bytes
abbrev pub NowReplacesBoth : Name → Name → Text → DiskState → DiskState → Type 0
NowReplacesBoth main copy bytes old new =
    NowChanges (AllOf ((main, bytes) ∷ (copy, bytes) ∷ [])) old.view.now new.view.now

-- nothing but these two is changed
abbrev pub ChangesTwo : Name → Name → DiskState → DiskState → Type 0
ChangesTwo temp name old new = ChangesOnly (λ n. (n ≡ temp) ⊎ (n ≡ name)) old.view new.view

-- nothing but these three
abbrev pub ChangesThree : Name → Name → Name → DiskState → DiskState → Type 0
ChangesThree temp main copy old new =
    ChangesOnly (λ n. (n ≡ temp) ⊎ ((n ≡ main) ⊎ (n ≡ copy))) old.view new.view

-- The disk model's table, computed on a worked example: a file that is staged, synced, renamed and synced.
use Rattle.std.proofs.Common.{◌≡◌, true, false, [], ◌∷◌, Some, None, refl}
use Rattle.std.specs.Prelude.{codes}
use Rattle.base_devices.specs.Content.{Name, Value}
use Rattle.memory_devices.specs.State.{State, first_state, begun, appended, after_sync, renamed, swept}
use Rattle.memory_devices.specs.declared.change.Sweep.TheVariants.{SyncFolders, SyncFolder, Sync}

abbrev x : Name
x = codes "archive/demo/x"

abbrev y : Name
y = codes "archive/demo/y"

abbrev a : Value
a = Some (97 ∷ [])

abbrev appended_x : State
appended_x = appended x (97 ∷ []) (begun x (first_state []))

abbrev synced_x : State
synced_x = after_sync x appended_x

abbrev renamed_x : State
renamed_x = renamed x y synced_x

abbrev settled_x : State
settled_x = swept SyncFolders (codes "archive/demo") renamed_x

-- both folders above it, synced without what lies deeper
abbrev settled_above : State
settled_above = swept SyncFolder (codes "archive") renamed_x

abbrev settled_here : State
settled_here = swept SyncFolder (codes "archive/demo") renamed_x

-- all below a folder synced at once
abbrev all_synced_x : State
all_synced_x = swept Sync (codes "archive") appended_x

appended_unsynced : appended_x.unsynced x ≡ true
appended_unsynced = refl

synced_synced : synced_x.unsynced x ≡ false
synced_synced = refl

synced_kept : synced_x.kept x ≡ None ∷ a ∷ []
synced_kept = refl

renamed_now : (renamed_x.now x ≡ None) × (renamed_x.now y ≡ a)
renamed_now = (refl, refl)

renamed_kept : (renamed_x.kept x ≡ None ∷ a ∷ None ∷ []) × (renamed_x.kept y ≡ None ∷ a ∷ [])
renamed_kept = (refl, refl)

settled_kept : (settled_x.kept x ≡ None ∷ []) × (settled_x.kept y ≡ a ∷ [])
settled_kept = (refl, refl)

settled_above_kept : settled_above.kept y ≡ None ∷ a ∷ []
settled_above_kept = refl

settled_here_kept : (settled_here.kept x ≡ None ∷ []) × (settled_here.kept y ≡ a ∷ [])
settled_here_kept = (refl, refl)

all_synced_kept : (all_synced_x.kept x ≡ None ∷ a ∷ []) × (all_synced_x.unsynced x ≡ false) × (all_synced_x.kept y ≡ None ∷ [])
all_synced_kept = (refl, refl, refl)

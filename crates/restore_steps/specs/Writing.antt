-- What the calls for a file leave of it and of the data folder. Own.
use Rattle.std.specs.Prelude.{ℕ, ◌≡◌, ◌<◌, List, length, IsSomeAnd, slice_get}
use Rattle.base_devices.specs.DataFolder.{IsPlaced, IsFileAt}
use Rattle.base_devices.specs.States.{DataFolderState}
use Rattle.base_model.specs.Text.{Text}
use Rattle.worker_protocol.specs.PartSinkState.{Adds, Ends, IsFresh}
use Rattle.worker_protocol.specs.declared.sinks.ItemEnd.{ItemEnd}
use Rattle.restore_steps.specs.Files.{temporary_path, kept_of, IsUnderWay}
use Rattle.restore_steps.specs.Keeping.{state_of}
use Rattle.restore_steps.specs.declared.contents.files.Wanted.{Wanted}
use Rattle.restore_steps.specs.declared.contents.files.Filed.{Filed}
use Rattle.restore_steps.specs.declared.contents.keeper.FileKeeper.{FileKeeper}

-- where the file's folder is there, and the bytes that were received, if any, lie in a file, no call is faulty
abbrev pub ExtendsProperly : ℕ → Text → DataFolderState → DataFolderState → Type 0
ExtendsProperly count path old new = (0 < count → IsFileAt old.nodes (temporary_path path)) → IsPlaced old.nodes path
    → new.faulty_calls ≡ old.faulty_calls

-- where the file's folder is there, and the file under its temporary name, no call is faulty
abbrev pub PutsProperly : Text → DataFolderState → DataFolderState → Type 0
PutsProperly path old new = IsFileAt old.nodes (temporary_path path) → IsPlaced old.nodes path
    → new.faulty_calls ≡ old.faulty_calls

-- where the file's folder is there, and its bytes lie under its temporary name, no call is faulty
abbrev pub ReceivesProperly : Filed → DataFolderState → DataFolderState → Type 0
ReceivesProperly file old new = IsUnderWay old.nodes file → IsPlaced old.nodes file.wanted.path.now
    → new.faulty_calls ≡ old.faulty_calls

-- these bytes were added to what is held of the file
abbrev pub ReceivesBytes : Text → Filed → Filed → DataFolderState → DataFolderState → Type 0
ReceivesBytes bytes file file_new old new = Adds bytes (kept_of old.nodes file) (kept_of new.nodes file_new)

-- the file's item ended so
abbrev pub ReceivesEnd : ItemEnd → Filed → Filed → DataFolderState → DataFolderState → Type 0
ReceivesEnd how file file_new old new = Ends how (kept_of old.nodes file) (kept_of new.nodes file_new)

-- nothing is held of any of these files
abbrev pub HoldsNothing : List Wanted → DataFolderState → FileKeeper → Type 0
HoldsNothing ws tree k =
    (j : ℕ) → j < length ws → IsSomeAnd (slice_get (state_of k tree.nodes).kept j) IsFresh

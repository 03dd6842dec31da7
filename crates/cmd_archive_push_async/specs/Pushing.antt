-- The result of a push.
use Rattle.std.specs.Prelude.{◌≡◌, ◌⊎◌, List, [], ◌∷◌, Some, None, Result, Ok, Err, string_bytes}
use Rattle.sha1.specs.Sha1.{sha1}
use Rattle.base_model.specs.Steps.{Named}
use Rattle.base_model.specs.Text.{Text}
use Rattle.cmd_types.specs.declared.stages.halt.Halt.{Halt}
use Rattle.cmd_types.specs.declared.stages.halt.Halt.TheVariants.{Refused as IsRefused, Failed, NoMemory}
use Rattle.cmd_archive_push.specs.declared.fault.PushFault.{PushFault}
use Rattle.cmd_archive_push.specs.Texts.{push_status, content_text}
use Rattle.cmd_archive_push_async.specs.declared.files.pushing.Tried.{Tried}
use Rattle.cmd_archive_push_async.specs.declared.files.pushing.Tried.TheVariants.{Stored, Refused}
use Rattle.cmd_archive_push_async.specs.Fates.{Fate, saved, refused}

-- the file, where it was stored
abbrev pub stored_of : Result Tried (Halt PushFault) → Named → List Named
stored_of (Ok (Stored sum)) n = n ∷ []
stored_of (Ok (Refused fault line)) n = []
stored_of (Err halt) n = []

-- the file, where it may have been stored
abbrev pub tried_of : Result Tried (Halt PushFault) → Named → List Named
tried_of (Ok tried) n = []
tried_of (Err halt) n = n ∷ []

-- what became of a file of these bytes
abbrev pub fate_of : Tried → Text → Fate
fate_of (Stored sum) bytes = saved bytes
fate_of (Refused fault line) bytes = refused (push_status fault) (string_bytes line)

-- the sum that is given of a stored file is that of its bytes
abbrev pub ShowsSum : Tried → Text → Type 0
ShowsSum (Stored sum) bytes = sum.0 ≡ sha1 bytes
ShowsSum (Refused fault line) bytes = Unit {0}

-- it isn't refused for the file's content
abbrev pub EndsDrain : Halt PushFault → Type 0
EndsDrain (IsRefused fault) = content_text fault ≡ None
EndsDrain (Failed object) = Unit {0}
EndsDrain NoMemory = Unit {0}

-- a call that ended so is reported as a refusal of the file's content, or it ends the drain, unless memory ran out
abbrev pub IsHaltedBy : Halt PushFault → Result Tried (Halt PushFault) → Type 0
IsHaltedBy halt (Ok (Stored sum)) = ⊥
IsHaltedBy halt (Ok (Refused fault line)) = (halt ≡ IsRefused fault) × (content_text fault ≡ Some (string_bytes line))
IsHaltedBy halt (Err end) = (end ≡ NoMemory) ⊎ ((end ≡ halt) × EndsDrain halt)

-- Names whose bytes are on the disk, and names at which bytes are being put.
use Rattle.std.specs.Prelude.{◌≡◌, ℕ, Option, Some, Result, option_map, length, string_bytes, IfSome, IsSomeAnd}
use Rattle.base_devices.specs.Content.{Name, Content, put, Appends}
use Rattle.base_devices.specs.States.{DiskState}
use Rattle.base_model.specs.Text.{Text}
use Rattle.base_disk.specs.declared.staging.Staged.{Staged}
use Rattle.base_disk.specs.declared.staging.Staging.{Staging}

-- a file that is being written, and its temporary name
abbrev pub staged_name : Staged → Name
staged_name s = string_bytes s.name

abbrev pub staging_name : Staging → Name
staging_name s = string_bytes s.name

abbrev pub staging_length : Staging → ℕ
staging_length s = s.length

-- the name holds this many bytes, where that is known
abbrev pub HasLength : Option Content → Name → ℕ → Type 0
HasLength content name n = IfSome content (λ f. IsSomeAnd (f name) (λ b. length b ≡ n))

-- the name holds what was put there so far, where that is known
abbrev pub HoldsStaging : Staging → DiskState → Type 0
HoldsStaging staging disk = HasLength disk.view.now (staging_name staging) (staging_length staging)

-- the disk holds these bytes at the name, and the rest as before
abbrev pub PutsBytes : Name → Text → DiskState → DiskState → Type 0
PutsBytes name bytes old new = new.view.now ≡ option_map (put name (Some bytes)) old.view.now

-- a failed append may have added a part of its bytes
abbrev pub AppendsBytes : {T E : Type 0} → Result T E → Name → Text → DiskState → DiskState → Type 0
AppendsBytes result name bytes old new = Appends result name bytes old.view.now new.view.now

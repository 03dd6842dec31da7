-- What a call makes of a data folder, by what is known of it before and after. Own.
use Rattle.std.specs.Prelude.{◌≡◌, ◌≢◌, ◌≤◌, ◌∷◌, [], ℕ, Option, Some, None}
use Rattle.base_devices.specs.Content.{Name, Content, at, put, lengthened}
use Rattle.base_devices.specs.DataFolder.{Nodes}
use Rattle.base_devices.specs.States.{DataFolderState, FolderFailed}
use Rattle.base_sample.specs.Bytes.{relation_path, zeros}
use Rattle.base_sample.specs.Folder.{grown}
use Rattle.base_sample.specs.Having.{Has, FolderCause}
use Rattle.base_sample.specs.declared.folder.fault.FolderFault.{FolderFault}

-- whatever files of a sample cluster it had, it has those that this makes of them
abbrev pub ChangesFilesBy : (Content → Content) → DataFolderState → DataFolderState → Type 0
ChangesFilesBy change old new = (c : Content) → Has c old.nodes → Has (change c) new.nodes

-- with one zero more in the relation file of this place
abbrev pub with_zero_in : ℕ → Content → Content
with_zero_in place c = lengthened (relation_path place) (0 ∷ []) c

-- without the first relation file
abbrev pub without_first : Content → Content
without_first c = put (relation_path 0) None c

-- with zeros in the second relation file
abbrev pub with_blank_second : Content → Content
with_blank_second c = put (relation_path 1) (Some (zeros 512)) c

-- with both of these changes
abbrev pub with_two_spoiled : Content → Content
with_two_spoiled c = with_blank_second (without_first c)

-- the same is at each path of which this holds
abbrev pub SameWhere : (Name → Type 0) → DataFolderState → DataFolderState → Type 0
SameWhere P old new = (q : Name) → P q → at q new.nodes ≡ at q old.nodes

-- the same is at each path but these two
abbrev pub SameButTwo : Name → Name → DataFolderState → DataFolderState → Type 0
SameButTwo one other old new = (q : Name) → q ≢ one → q ≢ other → at q new.nodes ≡ at q old.nodes

-- where this holds of what the folder had, no faulty call is made
abbrev pub ProperWhere : (Option Nodes → Type 0) → DataFolderState → DataFolderState → Type 0
ProperWhere P old new = P old.nodes → new.faulty_calls ≡ old.faulty_calls

-- where it had the grown files of a sample cluster, no faulty call is made
abbrev pub ProperWhereGrown : DataFolderState → DataFolderState → Type 0
ProperWhereGrown old new = (n : ℕ) → n ≤ 64 → ProperWhere (Has (grown n)) old new

-- why no cluster is made: something is in the folder, or it failed
abbrev pub SampleCause : DataFolderState → DataFolderState → FolderFault → Type 0
SampleCause old new = FolderCause old.nodes (FolderFailed old new)

-- How the path of an archive file is put together.
use Rattle.std.specs.Prelude.{◌≡◌, ◌≢◌, ℕ, Bool, true, false, ◌∷◌, ◌++◌, Option, Some, None, option_map}
use Rattle.std.specs.List.{AllByRecursion}
use Rattle.base_text.specs.Sum.{IsSum, sum_text}
use Rattle.base_model.specs.declared.wal.ArchiveId.{ArchiveId}
use Rattle.base_model.specs.declared.wal.ArchiveName.{ArchiveName}
use Rattle.base_model.specs.declared.wal.ArchiveName.TheVariants.{Segment as Whole, Partial, History, Backup}
use Rattle.base_model.specs.Text.{Text, ◌⫽◌}
use Rattle.base_model.specs.Names.{id_text, wal_text, archive_text, segment_folder}
use Rattle.base_model.specs.Represents.{IsWalName, IsArchivePlace}
use Rattle.archive_lookup.specs.declared.stored.paths.StoredName.{StoredName}
use Rattle.archive_lookup.specs.Stored.{known_sum}

-- no byte of the text is this one
abbrev pub Lacks : ℕ → Text → Type 0
Lacks byte text = AllByRecursion (λ b. b ≢ byte) text

-- the path of a file has the digits of its sum
abbrev pub has_sum : ArchiveName → Bool
has_sum (Whole segment) = true
has_sum (Partial segment) = true
has_sum (History timeline) = false
has_sum (Backup segment offset) = false

-- its last element
abbrev pub file_text : ArchiveName → Text → Text
file_text (Whole segment) sum = wal_text (Whole segment) ++ 45 ∷ sum_text sum
file_text (Partial segment) sum = wal_text (Partial segment) ++ 45 ∷ sum_text sum
file_text (History timeline) sum = wal_text (History timeline)
file_text (Backup segment offset) sum = wal_text (Backup segment offset)

-- the folder below the id, where there is one
abbrev pub folder_text : ArchiveName → Option Text
folder_text (Whole segment) = Some (segment_folder segment)
folder_text (Partial segment) = Some (segment_folder segment)
folder_text (History timeline) = None
folder_text (Backup segment offset) = Some (segment_folder segment)

-- a text cut at its first slash
abbrev pub IsCut : Text → Option Text → Text → Type 0
IsCut text None file = (text ≡ file) × Lacks 47 file
IsCut text (Some folder) file = (text ≡ folder ⫽ file) × Lacks 47 folder

-- the text is the file's with some sum, and this is known of the sum
abbrev pub IsReadAs : (ArchiveName → Text → Text) → Text → ArchiveName → Option Text → Type 0
IsReadAs text_of text name known = (sum : Text) × IsSum sum × (text ≡ text_of name sum) × (known ≡ known_sum name sum)

-- the text is that of no file
abbrev pub IsTextOfNone : (ArchiveName → Text → Text) → Text → Type 0
IsTextOfNone text_of text = (name : ArchiveName) (sum : Text) → IsWalName name → IsSum sum → text ≢ text_of name sum

-- the path below the id
abbrev pub below_id : ArchiveName → Text → Text
below_id name sum = archive_text name (sum_text sum)

-- the path below a folder of ids
abbrev pub below_folder : Text → ArchiveId → ArchiveName → Text → Text
below_folder folder id name sum = folder ++ (id_text id ⫽ below_id name sum)

-- this is what a path below a folder of ids states
abbrev pub IsPathRead : Text → Text → StoredName → Type 0
IsPathRead folder path known =
    IsReadAs (below_folder folder known.id) path known.name (option_map (λ s. s.0) known.sum)

-- it is the path of no archive file
abbrev pub IsPathOfNone : Text → Text → Type 0
IsPathOfNone folder path = (id : ArchiveId) (name : ArchiveName) (sum : Text) → IsArchivePlace id name sum
    → path ≢ below_folder folder id name sum

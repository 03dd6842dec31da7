-- Which files of the data folder are those of the prior backup (pgBackRest command reference, "Backup", option delta).
use Rattle.std.specs.Prelude.{ℕ, Bool, true, false, ◌≡◌, ◌≢◌, ◌<◌, ◌^◌, ◌⊎◌, List, [], ◌∷◌, length, drop, Option, Some, None, bytes_eq, string_bytes, slice_get, if◌then◌else◌}
use Rattle.base_devices.specs.Links.{LinkState}
use Rattle.base_model.specs.Text.{Text, In}
use Rattle.base_model.specs.Values.{FileEntry}
use Rattle.worker_protocol.specs.Frames.{Item, Job}
use Rattle.worker_protocol.specs.declared.sinks.ItemEnd.{ItemEnd}
use Rattle.worker_pool.specs.Reads.{UnreadBy}
use Rattle.worker_pool.specs.declared.dispatch.fault.Lost.{Lost}
use Rattle.worker_pool.specs.Run.{AllLost, begun}
use Rattle.worker_pool.specs.Digests.{IsDigestedBy, IsAbsentBy, is_equal}
use Rattle.backup_plan.specs.Digests.{is_asked, digest_jobs}
use Rattle.backup_plan.specs.Layout.{item_for}
use Rattle.backup_plan.specs.Listed.{Taken, entry_at}
use Rattle.cmd_backup_common.specs.declared.parts.fault.BackupFault.{BackupFault}
use Rattle.cmd_backup_common.specs.declared.parts.fault.BackupFault.TheVariants.{WorkersLost, Unread}

-- ---- which files are equal

-- The file is the prior backup's: that has it with its size, and one of these links reported the digest that its entry
-- has.
pub record IsEqual (links : List LinkState) (old : List FileEntry) (f : Taken) : Type 0 where
  pub asked : is_asked (entry_at f.path old) f ≡ true
  pub entry : FileEntry
  pub is : entry_at f.path old ≡ Some entry
  pub digested : IsDigestedBy links (item_for f) entry.size entry.sum

-- one of these links reported another number or digest of the file than the entry has, or that the file isn't there
abbrev pub IsOther : List LinkState → Taken → FileEntry → Type 0
IsOther links f e =
    ((n : ℕ) × (sum : Text) × IsDigestedBy links (item_for f) n sum × ¬ ((n ≡ e.size) × (sum ≡ e.sum)))
    ⊎ IsAbsentBy links (item_for f)

-- The file isn't the prior backup's: its digest isn't asked for, since that doesn't have it with its size, or a link
-- reported another one.
abbrev pub IsChanged : List LinkState → List FileEntry → Taken → Type 0
IsChanged links old f = (is_asked (entry_at f.path old) f ≡ false)
    ⊎ ((e : FileEntry) × (entry_at f.path old ≡ Some e) × IsOther links f e)

-- the mark says which of both it is
abbrev pub IsMarked : List LinkState → List FileEntry → Taken → Bool → Type 0
IsMarked links old f true = IsEqual links old f
IsMarked links old f false = IsChanged links old f

-- each file has its mark
abbrev pub AreMarked : List LinkState → List FileEntry → List Taken → List Bool → Type 0
AreMarked links old [] [] = Unit {0}
AreMarked links old (f ∷ fs) (m ∷ ms) = IsMarked links old f m × AreMarked links old fs ms
AreMarked links old fs ms = ⊥

-- ---- which files are left

-- The file is the prior backup's by its time: that has it with its size and its time.
pub record IsUntouched (old : List FileEntry) (f : Taken) : Type 0 where
  pub asked : is_asked (entry_at f.path old) f ≡ true
  pub entry : FileEntry
  pub is : entry_at f.path old ≡ Some entry
  pub time : entry.time ≡ f.time

-- It isn't: that doesn't have it with its size, or has another time.
abbrev pub IsTouched : List FileEntry → Taken → Type 0
IsTouched old f = (is_asked (entry_at f.path old) f ≡ false)
    ⊎ ((e : FileEntry) × (entry_at f.path old ≡ Some e) × (e.time ≢ f.time))

-- the file is to be left, with delta by its digest, and else by its time
abbrev pub IsSame : List LinkState → Bool → List FileEntry → Taken → Type 0
IsSame links true old f = IsEqual links old f
IsSame links false old f = IsUntouched old f

-- the file is to be stored
abbrev pub IsNew : List LinkState → Bool → List FileEntry → Taken → Type 0
IsNew links true old f = IsChanged links old f
IsNew links false old f = IsTouched old f

-- A manifest's entry is of one of these files, with its time. It refers to another backup exactly where the file is to
-- be left.
pub record IsEntryBy (links : List LinkState) (delta : Bool) (old : List FileEntry) (fs : List Taken)
    (e : FileEntry) : Type 0 where
  pub file : Taken
  pub taken : In file fs
  pub path : e.path ≡ file.path
  pub time : e.time ≡ file.time
  pub left : e.reference ≢ None → IsSame links delta old file
  pub stored : e.reference ≡ None → IsNew links delta old file

-- ---- marks, from how the digest jobs ended

-- the first of these items is the file
abbrev pub begins_with : List Item → Taken → Bool
begins_with [] f = false
begins_with (i ∷ is) f = bytes_eq i.path f.path

-- the first end has the entry's number and digest
abbrev pub first_equal : Option FileEntry → List (Option ItemEnd) → Bool
first_equal None ends = false
first_equal (Some e) [] = false
first_equal (Some e) (end ∷ ends) = is_equal e end

-- the mark of the file, where the first of these jobs is that of the file
abbrev pub next_mark : List FileEntry → List Job → List (Option ItemEnd) → Taken → Option Bool
next_mark old [] ends f = None
next_mark old (j ∷ js) ends f = if begins_with j.items f then Some (first_equal (entry_at f.path old) ends) else None

-- the marks of all files, of which each one that is asked for has its end
abbrev pub marks_of : List FileEntry → List Taken → List (Option ItemEnd) → List Bool
marks_of old [] ends = []
marks_of old (f ∷ fs) ends =
    if is_asked (entry_at f.path old) f then first_equal (entry_at f.path old) ends ∷ marks_of old fs (drop 1 ends)
    else false ∷ marks_of old fs ends

-- ---- why it isn't reported

-- jobs over these links lost all of them; with those that were lost before they are this many
pub record LosesLinks (links : List LinkState) (before : List Lost) (lost : ℕ) : Type 0 where
  pub jobs : List Job
  pub after : List Lost
  pub all : AllLost jobs (begun links before) after
  pub count : length after < 2 ^ 32 → lost ≡ length after

-- a link couldn't read a file of this path, for which a digest is asked
pub record CannotDigest (links : List LinkState) (old : List FileEntry) (fs : List Taken) (path : Text) : Type 0 where
  pub link : ℕ
  pub from : LinkState
  pub from_is : slice_get links link ≡ Some from
  pub job : Job
  pub asked : In job (digest_jobs old fs)
  pub item : Item
  pub of_job : In item job.items
  pub path_is : item.path ≡ path
  pub unread : UnreadBy from.known item

abbrev pub EqualCause : List LinkState → List Lost → List FileEntry → List Taken → BackupFault → Type 0
EqualCause links before old fs (WorkersLost lost) = LosesLinks links before lost
EqualCause links before old fs (Unread path) = CannotDigest links old fs (string_bytes path)
EqualCause links before old fs other = ⊥

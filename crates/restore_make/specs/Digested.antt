-- How digest jobs over the data folder end. Own.
use Rattle.std.specs.Prelude.{ℕ, Bool, true, false, ◌≡◌, ◌==◌, ◌&&◌, ◌⊎◌, List, [], ◌∷◌, ◌++◌, Option, Some, IsSomeAnd, slice_get, slice_set, string_bytes, if◌then◌else◌}
use Rattle.base_devices.specs.Content.{Content}
use Rattle.base_devices.specs.Links.{LinkState}
use Rattle.base_model.specs.Text.{Text, In}
use Rattle.restore_make.specs.Recovered.{Recovery}
use Rattle.base_model.specs.Values.{FileEntry, file_entry_of}
use Rattle.base_devices.specs.declared.data_folder.Node.{Node}
use Rattle.base_devices.specs.declared.data_folder.Node.TheVariants.{File, Folder, Link, Other}
use Rattle.worker_protocol.specs.declared.sinks.ItemEnd.{ItemEnd}
use Rattle.worker_pool.specs.Payloads.{AllRead}
use Rattle.worker_pool.specs.declared.dispatch.fault.DispatchFault.{DispatchFault}
use Rattle.worker_pool.specs.declared.dispatch.fault.DispatchFault.TheVariants as dispatch
use Rattle.worker_pool.specs.Digests.{IsDigestedBy, IsWhole, is_equal}
use Rattle.restore_make.specs.declared.fault.FillFault.{FillFault}
use Rattle.restore_make.specs.declared.fault.FillFault.TheVariants as faults
use Rattle.restore_make.specs.declared.candidates.Candidate.{Candidate}
use Rattle.restore_make.specs.Entries.{AreOf}
use Rattle.restore_make.specs.Kept.{in_folder, IsShown, mark_at}
use Rattle.restore_make.specs.Options.{is_ordinary}

-- ---- candidates

-- the manifest's entry of a file that may stay
abbrev pub file_of : Candidate → FileEntry
file_of c = file_entry_of c.file.now

-- the candidate is an ordinary entry at its place, and the listing shows a file of its path and size
pub record IsCandidate (recovery : Recovery) (es : List FileEntry) (seen : List (Text × Node)) (c : Candidate) : Type
    0 where
  pub at : slice_get es c.place ≡ Some (file_of c)
  pub ordinary : is_ordinary recovery (file_of c) ≡ true
  pub shown : IsShown seen (file_of c)

abbrev pub AreCandidates : Recovery → List FileEntry → List (Text × Node) → List Candidate → Type 0
AreCandidates recovery es seen cs = (k : ℕ) (c : Candidate) → slice_get cs k ≡ Some c → IsCandidate recovery es seen c

-- the node is a file of the size of this ordinary entry
abbrev pub is_like : Recovery → FileEntry → Node → Bool
is_like recovery e (File size time) = (size == e.size) && is_ordinary recovery e
is_like recovery e Folder = false
is_like recovery e Link = false
is_like recovery e Other = false

-- the node, with its path, is the entry's
abbrev pub IsLike : Recovery → Text × Node → FileEntry → Type 0
IsLike recovery s e = (e.path ≡ s.0) × (is_like recovery e s.1 ≡ true)

-- an entry of this path is at the place
abbrev pub IsPlaceOf : List FileEntry → Text → ℕ → Type 0
IsPlaceOf es path i = (e : FileEntry) × (slice_get es i ≡ Some e) × (e.path ≡ path)

-- the candidate is the entry of this node
abbrev pub IsCandidateBy : Recovery → List FileEntry → Text × Node → Candidate → Type 0
IsCandidateBy recovery es s c = (slice_get es c.place ≡ Some (file_of c)) × IsLike recovery s (file_of c)

-- the node's candidate was added, or the node is no entry's
abbrev pub AddsCandidate : Recovery → List FileEntry → Text × Node → List Candidate → List Candidate → Type 0
AddsCandidate recovery es s old new =
    ((new ≡ old) × ((e : FileEntry) → In e es → ¬ IsLike recovery s e))
    ⊎ ((c : Candidate) × (new ≡ old ++ c ∷ []) × IsCandidateBy recovery es s c)

-- each such entry is a candidate
abbrev pub HasCandidates : Recovery → List FileEntry → List (Text × Node) → List Candidate → Type 0
HasCandidates recovery es seen cs = (e : FileEntry) → In e es → is_ordinary recovery e ≡ true → IsShown seen e
    → (k : ℕ) × (c : Candidate) × (slice_get cs k ≡ Some c) × (slice_get es c.place ≡ Some e)

-- ---- ends

-- where it ended whole, one of these links reported its number and digest
abbrev pub IsEndOf : List LinkState → FileEntry → Option ItemEnd → Type 0
IsEndOf links e end = (n : ℕ) (sum : Text) → IsWhole end n sum → IsDigestedBy links (in_folder e) n sum

-- where all links read these files, and one of them is as the entry states, it ended so
abbrev pub IsEndByFile : List LinkState → FileEntry → Option ItemEnd → Type 0
IsEndByFile links e end = (tree repo : Content) → AllRead tree repo links → (bytes : Text) → tree e.path ≡ Some bytes
    → AreOf e bytes → IsWhole end e.size e.sum

-- each candidate's job ended as a link reported, and as its file is
pub record AreEnds (links : List LinkState) (cs : List Candidate) (ends : List (Option ItemEnd)) : Type 0 where
  pub known : (k : ℕ) (c : Candidate) (end : Option ItemEnd) → slice_get cs k ≡ Some c → slice_get ends k ≡ Some end
      → IsEndOf links (file_of c) end
  pub each : (k : ℕ) (c : Candidate) → slice_get cs k ≡ Some c
      → IsSomeAnd (slice_get ends k) (IsEndByFile links (file_of c))

-- the fault of digest jobs, by the name of a candidate's file; or memory ran out
abbrev pub NamesCandidate : List Candidate → DispatchFault → FillFault → Type 0
NamesCandidate cs fault (faults.FileDamaged path known found) = ⊥
NamesCandidate cs fault faults.WorkersLost = fault ≡ dispatch.WorkersLost
NamesCandidate cs fault (faults.Unread path) = (j item : ℕ) × (c : Candidate) × (fault ≡ dispatch.Unread j item)
    × (slice_get cs j ≡ Some c) × (string_bytes path ≡ (file_of c).path)
NamesCandidate cs fault faults.DataFolder = ⊥
NamesCandidate cs fault faults.NoMemory = Unit {0}

-- ---- marks

-- no place is marked
abbrev pub NoneMarked : List Bool → Type 0
NoneMarked marks = (i : ℕ) → mark_at marks i ≡ false

-- the marks, with that of a candidate's place where it is equal
abbrev pub marked_one : Candidate → Option ItemEnd → List Bool → List Bool
marked_one c end marks = if is_equal (file_of c) end then slice_set marks c.place true else marks

-- a candidate of this place is equal
pub record IsEqualAt (cs : List Candidate) (ends : List (Option ItemEnd)) (place : ℕ) : Type 0 where
  pub number : ℕ
  pub candidate : Candidate
  pub is : slice_get cs number ≡ Some candidate
  pub at : candidate.place ≡ place
  pub end : Option ItemEnd
  pub end_is : slice_get ends number ≡ Some end
  pub equal : is_equal (file_of candidate) end ≡ true

-- only places of equal candidates are marked
abbrev pub IsMarkedBy : List Candidate → List (Option ItemEnd) → List Bool → Type 0
IsMarkedBy cs ends marks = (i : ℕ) → mark_at marks i ≡ true → IsEqualAt cs ends i

-- and each of them is
abbrev pub MarksEqual : List Candidate → List (Option ItemEnd) → List Bool → Type 0
MarksEqual cs ends marks = (k : ℕ) (c : Candidate) (end : Option ItemEnd) → slice_get cs k ≡ Some c
    → slice_get ends k ≡ Some end → is_equal (file_of c) end ≡ true → mark_at marks c.place ≡ true

-- the marks are those of the candidates of which links reported the entry's digest
pub record AreMarked (links : List LinkState) (cs : List Candidate) (marks : List Bool) : Type 0 where
  pub ends : List (Option ItemEnd)
  pub known : AreEnds links cs ends
  pub by : IsMarkedBy cs ends marks
  pub all : MarksEqual cs ends marks

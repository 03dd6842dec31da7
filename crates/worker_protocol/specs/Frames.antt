-- Frames between the program and its workers: what they state, their one spelling, and their rules.
use Rattle.std.specs.Prelude.{ℕ, ◌≡◌, ◌^◌, ◌<◌, ◌≤◌, List, [], ◌∷◌, ◌++◌, length, drop, IsUtf8}
use Rattle.std.specs.List.{flat_map, AllByRecursion}
use Rattle.std.specs.Int.{w16, w32, w64, to_be_bytes}
use Rattle.base_model.specs.Text.{Text}
use Rattle.base_model.specs.Paths.{IsPath}
use Rattle.repo_names.specs.Faults.{IsPathWithin}
use Rattle.worker_protocol.specs.declared.frames.frames.Root.{Root}
use Rattle.worker_protocol.specs.declared.frames.frames.Root.TheVariants.{DataFolder, Repo}
use Rattle.worker_protocol.specs.declared.frames.frames.JobKind.{JobKind}
use Rattle.worker_protocol.specs.declared.frames.frames.JobKind.TheVariants.{Read, Digest}

-- at most size bytes of a file below a root, from a place on
pub record Item : Type 0 where
  pub root : Root
  pub path : Text
  pub at : ℕ
  pub size : ℕ

-- the items whose bytes, or digests alone, a worker is to give
pub record Job : Type 0 where
  pub kind : JobKind
  pub items : List Item

-- the folders of the two roots
pub record Roots : Type 0 where
  pub tree : Text
  pub repo : Text

pub data Frame : Type 0 where
  Setup : Roots → Frame
  Task : Job → Frame
  Part : Text → Frame
  End : ℕ → Text → Frame
  Vanished : Frame
  Unread : Frame

-- ---- the spelling; every number has its highest byte first

-- a type, the length of the body in four bytes, and the body
abbrev pub framed : ℕ → Text → Text
framed type body = type ∷ (to_be_bytes w32 (length body) ++ body)

-- a length in two bytes, and this many bytes
abbrev pub short_text : Text → Text
short_text text = to_be_bytes w16 (length text) ++ text

-- `T` or `R`
abbrev pub root_letter : Root → ℕ
root_letter DataFolder = 84
root_letter Repo = 82

-- `R` or `D`
abbrev pub kind_letter : JobKind → ℕ
kind_letter Read = 82
kind_letter Digest = 68

unfoldable pub item_bytes : Item → Text
item_bytes i = root_letter i.root ∷ (short_text i.path ++ to_be_bytes w64 i.at ++ to_be_bytes w64 i.size)

unfoldable pub job_bytes : Job → Text
job_bytes j = kind_letter j.kind ∷ (to_be_bytes w32 (length j.items) ++ flat_map item_bytes j.items)

-- the one spelling of a frame, of type `S`, `J`, `P`, `E`, `V` or `U`
abbrev pub spell : Frame → Text
spell (Setup r) = framed 83 (short_text r.tree ++ short_text r.repo)
spell (Task j) = framed 74 (job_bytes j)
spell (Part bytes) = framed 80 bytes
spell (End n sum) = framed 69 (to_be_bytes w64 n ++ sum)
spell Vanished = framed 86 []
spell Unread = framed 85 []

-- ---- the rules

-- the longest part
unfoldable pub part_size : ℕ
part_size = 32768

-- the longest body of a job
unfoldable pub job_limit : ℕ
job_limit = 67108864

-- the longest path in the repository
unfoldable pub repo_limit : ℕ
repo_limit = 1200

-- a path that may be in a job
abbrev pub IsItemPath : Root → Text → Type 0
IsItemPath DataFolder path = IsPath path
IsItemPath Repo path = IsPathWithin repo_limit path

pub record FitsItem (i : Item) : Type 0 where
  pub path : IsItemPath i.root i.path
  pub at : i.at < 2 ^ 64
  pub size : i.size < 2 ^ 64

pub record FitsJob (j : Job) : Type 0 where
  pub some : 0 < length j.items
  pub few : length j.items < 2 ^ 32
  pub items : AllByRecursion FitsItem j.items
  pub small : length (job_bytes j) ≤ job_limit

-- a text whose length has two bytes
pub record IsShortText (text : Text) : Type 0 where
  pub utf8 : IsUtf8 text
  pub short : length text < 2 ^ 16

pub record FitsRoots (r : Roots) : Type 0 where
  pub tree : IsShortText r.tree
  pub repo : IsShortText r.repo

-- a frame that keeps the rules
abbrev pub FitsFrame : Frame → Type 0
FitsFrame (Setup r) = FitsRoots r
FitsFrame (Task j) = FitsJob j
FitsFrame (Part bytes) = (0 < length bytes) × (length bytes ≤ part_size)
FitsFrame (End n sum) = (n < 2 ^ 64) × (length sum ≡ 20)
FitsFrame Vanished = Unit {0}
FitsFrame Unread = Unit {0}

-- the bytes begin with this frame's spelling, which has this length
pub record IsPrefix (bytes : Text) (frame : Frame) (size : ℕ) : Type 0 where
  pub fits : FitsFrame frame
  pub parts : bytes ≡ spell frame ++ drop size bytes
  pub size_is : size ≡ length (spell frame)

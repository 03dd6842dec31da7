-- What a worker reads, and how the items of a job end by its reply. Own.
use Rattle.std.specs.Prelude.{ℕ, true, ◌≡◌, ◌≤◌, List, [], ◌∷◌, length, Option, Some, None, IsSomeAnd}
use Rattle.sha1.specs.Sha1.{sha1}
use Rattle.base_devices.specs.Content.{Content, Value}
use Rattle.base_devices.specs.Links.{Modelled}
use Rattle.base_model.specs.Text.{Text}
use Rattle.worker_protocol.specs.declared.frames.frames.Root.TheVariants.{DataFolder, Repo}
use Rattle.worker_protocol.specs.declared.frames.frames.JobKind.{JobKind}
use Rattle.worker_protocol.specs.declared.frames.frames.JobKind.TheVariants.{Read, Digest}
use Rattle.worker_protocol.specs.Frames.{Item, Job, Roots, FitsJob, FitsRoots, spell}
use Rattle.worker_protocol.specs.Frames.Frame.{Setup, Task}
use Rattle.worker_protocol.specs.Replies.{files_of, payload, reply}
use Rattle.worker_protocol.specs.declared.sinks.ItemEnd.{ItemEnd}
use Rattle.worker_protocol.specs.declared.sinks.ItemEnd.TheVariants.{Whole, Vanished}
use Rattle.worker_protocol.specs.PartSinkState.{Held, Done, Holds}

-- The link reads these files: it answers each job by the reply of a worker whose roots hold them, and a setup by
-- nothing.
pub record Reads (tree repo : Content) (t : Modelled) : Type 0 where
  pub job : (j : Job) → FitsJob j → t.answer (spell (Task j)) ≡ reply j tree repo
  pub setup : (r : Roots) → FitsRoots r → t.answer (spell (Setup r)) ≡ []

-- the same for each two roots that the link reads, where it states
abbrev pub WhereRead : Option Modelled → (Content → Content → Type 0) → Type 0
WhereRead None P = Unit {0}
WhereRead (Some t) P = (tree repo : Content) → Reads tree repo t → P tree repo

-- a known link is steady and reads some files
pub record IsWorker (t : Modelled) : Type 0 where
  pub steady : t.steady ≡ true
  pub tree : Content
  pub repo : Content
  pub reads : Reads tree repo t

-- the link reports, and is such a worker
abbrev pub IsSteadyWorker : Option Modelled → Type 0
IsSteadyWorker known = IsSomeAnd known IsWorker

-- a known link reads some files, though it may fail, or end early
pub record ReadsSome (t : Modelled) : Type 0 where
  pub tree : Content
  pub repo : Content
  pub reads : Reads tree repo t

-- the link reports, and gives no other bytes than those of replies from some files
abbrev pub IsHonest : Option Modelled → Type 0
IsHonest known = IsSomeAnd known ReadsSome

-- what is at the item's path
abbrev pub file_of : Item → Content → Content → Value
file_of i tree repo = files_of i.root tree repo i.path

-- these are the bytes that the job asks of the file
abbrev pub IsPayload : Item → Value → Text → Type 0
IsPayload i None bytes = ⊥
IsPayload i (Some file) bytes = bytes ≡ payload i file

-- the item's bytes, as the link reads them
abbrev pub ReadBy : Option Modelled → Item → Text → Type 0
ReadBy from i bytes = WhereRead from (λ tree repo. IsPayload i (file_of i tree repo) bytes)

-- the item's file is absent, as the link reads it
abbrev pub AbsentBy : Option Modelled → Item → Type 0
AbsentBy from i = WhereRead from (λ tree repo. file_of i tree repo ≡ None)

-- the item is one of the repository, and is absent there as the link reads it
abbrev pub UnreadBy : Option Modelled → Item → Type 0
UnreadBy from i = WhereRead from (λ tree repo. (i.root ≡ Repo) × (file_of i tree repo ≡ None))

-- some bytes have this number and digest
pub record IsSumOf (n : ℕ) (sum bytes : Text) : Type 0 where
  pub number : n ≡ length bytes
  pub digest : sum ≡ sha1 bytes

-- the number and the digest are those of the item's bytes, as the link reads them
abbrev pub SumsBy : Option Modelled → Item → ℕ → Text → Type 0
SumsBy from i n sum = WhereRead from
    (λ tree repo. (bytes : Text) × IsPayload i (file_of i tree repo) bytes × IsSumOf n sum bytes)

-- a read item that ended: what is held has the reported number and digest, and is what the link reads
pub record EndsWhole (from : Option Modelled) (i : Item) (held : Held) (n : ℕ) (sum : Text) : Type 0 where
  pub bytes : Text
  pub holds : Holds held bytes
  pub sums : IsSumOf n sum bytes
  pub size : length bytes ≤ i.size
  pub read : ReadBy from i bytes

-- how an item ended by the reply of a link
abbrev pub EndsAs : Option Modelled → JobKind → Item → Held → ItemEnd → Type 0
EndsAs from Read i held (Whole n sum) = EndsWhole from i held n sum.0
EndsAs from Digest i held (Whole n sum) = Holds held [] × (n ≤ i.size) × SumsBy from i n sum.0
EndsAs from kind i held Vanished = Holds held [] × (i.root ≡ DataFolder) × AbsentBy from i

-- each of these items ended so
abbrev pub AllEnd : Option Modelled → JobKind → List Item → List Done → Type 0
AllEnd from kind [] [] = Unit {0}
AllEnd from kind [] (d ∷ ds) = ⊥
AllEnd from kind (i ∷ is) [] = ⊥
AllEnd from kind (i ∷ is) (d ∷ ds) = EndsAs from kind i d.held d.end × AllEnd from kind is ds

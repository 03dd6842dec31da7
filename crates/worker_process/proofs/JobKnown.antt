-- Answering a job, item by item.
use Rattle.std.proofs.Common.{◌≡◌, inl, inr, ℕ, ◌+◌, ◌<◌, ◌≤◌, Bool, true, false, List, [], ◌∷◌, ◌++◌, length, take, drop, map, get_or, Option, Some, None, Result, Ok, Err, refl, sym, ◌∙◌, ap, subst, arith, append_assoc}
use Rattle.std.specs.Result.{IsErr}
use Rattle.std.specs.List.{flat_map, AllByRecursion}
use Rattle.std.proofs.lemmas.List.{append-nil, take-append-drop, map-append, map_more, drop_more}
use Rattle.sha1.specs.Sha1.{sha1}
use Rattle.base_devices.specs.Content.{Content, Value}
use Rattle.base_model.specs.Text.{Text}
use Rattle.worker_process.specs.declared.serve_fault.ServeFault.{ServeFault}
use Rattle.worker_protocol.specs.declared.frames.frames.Item as rust_item
use Rattle.worker_protocol.specs.declared.frames.frames.Root.{Root}
use Rattle.worker_protocol.specs.declared.frames.frames.Root.TheVariants.{DataFolder, Repo}
use Rattle.worker_protocol.specs.declared.frames.frames.JobKind.{JobKind}
use Rattle.worker_protocol.specs.declared.frames.frames.JobKind.TheVariants.{Read, Digest}
use Rattle.worker_protocol.specs.Frames.{Item, Job, Frame, spell}
use Rattle.worker_protocol.specs.Frames.Frame.{Part, End}
use Rattle.worker_protocol.specs.Views.{item_of, items_of}
use Rattle.worker_protocol.specs.Replies.{parts, payload, item_rest, item_reply, replies, absent_reply}
use Rattle.worker_process.specs.Writing.{IsWritten}
use Rattle.worker_process.specs.declared.job_reply.Opened.{Opened}
use Rattle.worker_process.specs.Opening.{FailedRoot}
use Rattle.worker_process.specs.Answers.{GoesOn, AnswersItem, KnownItem, AnswersJob, KnownJob, value_of}
use Rattle.worker_process.proofs.Written.{none_written, frames_more, frames_prefix}

-- ---- replies one after the other

rest_then : (kind : JobKind) (whole more : Text) (next : List Frame) → item_rest kind whole more next ≡ item_rest kind whole more [] ++ next
unfolding item_rest
rest_then Read whole more next = sym (append_assoc (map Part (parts more)) (End (length whole) (sha1 whole) ∷ []) next)
rest_then Digest whole more next = refl

absent_then : (root : Root) (next : List Frame) → GoesOn root None → absent_reply root next ≡ absent_reply root [] ++ next
absent_then DataFolder next goes = refl
absent_then Repo next (inl some) = cc
absent_then Repo next (inr is) = cc

item_then : (kind : JobKind) (i : Item) (value : Value) (next : List Frame) → GoesOn i.root value → item_reply kind i value next ≡ item_reply kind i value [] ++ next
item_then kind i None next goes = absent_then i.root next goes
item_then kind i (Some file) next goes = rest_then kind (payload i file) (payload i file) next

module _ (kind : JobKind) (tree repo : Content) where
  abbrev pub Goes : Item → Type 0
  Goes i = GoesOn i.root (value_of tree repo i)

  abbrev pub replied : List Item → List Frame
  replied is = replies kind is tree repo

  pub replies_then : (past next : List Item) → AllByRecursion Goes past → replied (past ++ next) ≡ replied past ++ replied next
  unfolding replies
  replies_then [] next goes = refl
  replies_then (i ∷ past) next goes =
      item_then kind i (value_of tree repo i) (replied (past ++ next)) goes.0
      ∙ ap (λ (l : List Frame). item_reply kind i (value_of tree repo i) [] ++ l) (replies_then past next goes.1)
      ∙ sym (append_assoc (item_reply kind i (value_of tree repo i) []) (replied past) (replied next))
      ∙ ap (λ (l : List Frame). l ++ replied next) (sym (item_then kind i (value_of tree repo i) (replied past) goes.0))

  -- the item and those after it
  replies_at : (i : Item) (later : List Item) → replied (i ∷ later) ≡ item_reply kind i (value_of tree repo i) (replied later)
  unfolding replies
  replies_at i later = refl

  replies_one : (i : Item) → replied (i ∷ []) ≡ item_reply kind i (value_of tree repo i) []
  unfolding replies
  replies_one i = refl

  pub goes_more : (past : List Item) (i : Item) → AllByRecursion Goes past → Goes i → AllByRecursion Goes (past ++ i ∷ [])
  goes_more [] i goes one = (one, tt)
  goes_more (j ∷ past) i goes one = (goes.0, goes_more past i goes.1 one)

  -- after an absent item of the repository the reply has ended
  absent_last : (root : Root) (path : Text) (at size : ℕ) (value : Value) (next : List Frame) → value ≡ None → root ≡ Repo → item_reply kind (record { root = root; path = path; at = at; size = size }) value next ≡ item_reply kind (record { root = root; path = path; at = at; size = size }) value []
  absent_last Repo path at size None next none is = refl
  absent_last Repo path at size (Some file) next none is = cc
  absent_last DataFolder path at size value next none is = cc

-- ---- this many items are answered

pub record AreAnswered (kind : JobKind) (tree repo : Content) (past : List Item) (old now : Option Text) : Type 0 where
  pub reached : AllByRecursion (Goes kind tree repo) past
  pub written : IsWritten old (flat_map spell (replies kind past tree repo)) now

module _ (kind : JobKind) (tree repo : Content) (Failed : Root → Type 0) (past later : List Item) (item : Item) (old now : Option Text) (a : AreAnswered kind tree repo past old now) where
  abbrev job : Job
  job = record { kind = kind; items = past ++ item ∷ later }

  abbrev own : List Frame
  own = item_reply kind item (value_of tree repo item) []

  abbrev before : List Frame
  before = replies kind past tree repo

  stops : (frames : List Frame) → AnswersItem kind item (value_of tree repo item) (Failed item.root) false frames → AnswersJob job tree repo Failed (before ++ frames)
  stops frames (inl x) = inl (
      ap (λ (l : List Frame). before ++ l) (x.0 ∙ sym (absent_last kind tree repo item.root item.path item.at item.size (value_of tree repo item) (replies kind later tree repo) x.1 x.2) ∙ sym (replies_at kind tree repo item later))
      ∙ sym (replies_then kind tree repo past (item ∷ later) a.reached))
  stops frames (inr x) = inr (record { past = past; item = item; later = later; items = refl; reached = a.reached; own = frames; stopped = x.1; is = refl; failed = x.0 })

  goes : GoesOn item.root (value_of tree repo item) → replies kind job.items tree repo ≡ before ++ (own ++ replies kind later tree repo)
  goes on = replies_then kind tree repo past (item ∷ later) a.reached ∙ ap (λ (l : List Frame). before ++ l) (replies_at kind tree repo item later ∙ item_then kind item (value_of tree repo item) (replies kind later tree repo) on)

  pub item_failed : (e : ServeFault) (new : Option Text) → KnownItem kind item (value_of tree repo item) (Failed item.root) (Err e) now new → KnownJob job tree repo Failed (Err e) old new
  item_failed e new (goes_on, frames, answers, prefix) = by_end goes_on answers
    where
      by_end : (b : Bool) → AnswersItem kind item (value_of tree repo item) (Failed item.root) b frames → KnownJob job tree repo Failed (Err e) old new
      by_end true x = record {
        frames = replies kind job.items tree repo;
        answers = inl refl;
        writes = frames_prefix old now new before frames (replies kind later tree repo) (replies kind job.items tree repo) (goes x.1 ∙ ap (λ (l : List Frame). before ++ (l ++ replies kind later tree repo)) (sym x.0)) a.written prefix;
      }
      by_end false x = record {
        frames = before ++ frames;
        answers = stops frames x;
        writes = frames_prefix old now new before frames [] (before ++ frames) (ap (λ (l : List Frame). before ++ l) (sym (append-nil frames))) a.written prefix;
      }

  pub item_stops : (new : Option Text) → KnownItem kind item (value_of tree repo item) (Failed item.root) (Ok false) now new → KnownJob job tree repo Failed (Ok tt) old new
  item_stops new (frames, answers, wrote) = record { frames = before ++ frames; answers = stops frames answers; writes = frames_more old now new before frames a.written wrote }

  pub item_goes : (new : Option Text) → KnownItem kind item (value_of tree repo item) (Failed item.root) (Ok true) now new → AreAnswered kind tree repo (past ++ item ∷ []) old new
  item_goes new (frames, answers, wrote) = record {
    reached = goes_more kind tree repo past item a.reached answers.1;
    written = subst (λ (l : List Frame). IsWritten old (flat_map spell l) new)
        (ap (λ (l : List Frame). before ++ l) (answers.0 ∙ sym (replies_one kind tree repo item)) ∙ sym (replies_then kind tree repo past (item ∷ []) a.reached))
        (frames_more old now new before frames a.written wrote);
  }

pub items_answered : (kind : JobKind) (tree repo : Content) (Failed : Root → Type 0) (items : List Item) (old new : Option Text) → AreAnswered kind tree repo items old new → KnownJob (record { kind = kind; items = items }) tree repo Failed (Ok tt) old new
items_answered kind tree repo Failed items old new a = record { frames = replies kind items tree repo; answers = inl refl; writes = a.written }

-- ---- the items of a job, cut at one of them

pub cut_at : (items : List rust_item.Item) (k : ℕ) (item : rust_item.Item) → k < length items → item ≡ get_or items k item → items_of items ≡ items_of (take k items) ++ item_of item ∷ items_of (drop (k + 1) items)
cut_at items k item lt is =
    ap (λ (l : List rust_item.Item). items_of l) (sym (take-append-drop k items) ∙ ap (λ (l : List rust_item.Item). take k items ++ l) (drop_more items k item lt ∙ ap (λ (x : rust_item.Item). x ∷ drop (k + 1) items) (sym is)))
    ∙ map-append item_of (take k items) (item ∷ drop (k + 1) items)

-- ---- one step of the loop

pub known_for : (kind : JobKind) (item : Item) (value : Value) (failed also : Type 0) (result : Result Bool ServeFault) (old new : Option Text) → (failed → also) → KnownItem kind item value failed result old new → KnownItem kind item value also result old new
known_for kind item value failed also (Ok true) old new f t = t
known_for kind item value failed also (Ok false) old new f (frames, inl x, wrote) = (frames, inl x, wrote)
known_for kind item value failed also (Ok false) old new f (frames, inr x, wrote) = (frames, inr (f x.0, x.1), wrote)
known_for kind item value failed also (Err e) old new f (true, frames, x, wrote) = (true, frames, x, wrote)
known_for kind item value failed also (Err e) old new f (false, frames, inl x, wrote) = (false, frames, inl x, wrote)
known_for kind item value failed also (Err e) old new f (false, frames, inr x, wrote) = (false, frames, inr (f x.0, x.1), wrote)

pub failed_from : (opened : Opened) (t u v w x y : ℕ) (root : Root) → t ≤ v → u ≤ w → FailedRoot opened v w x y root → FailedRoot opened t u x y root
failed_from opened t u v w x y DataFolder a b (inl closed) = inl closed
failed_from opened t u v w x y DataFolder a b (inr rose) = inr (omega arith)
failed_from opened t u v w x y Repo a b (inl closed) = inl closed
failed_from opened t u v w x y Repo a b (inr rose) = inr (omega arith)

-- after a fault nothing more is sent
pub any_job_fault : (job : Job) (tree repo : Content) (Failed : Root → Type 0) (result : Result (Unit {0}) ServeFault) (old new : Option Text) → IsErr result → ((e : ServeFault) → KnownJob job tree repo Failed (Err e) old new) → KnownJob job tree repo Failed result old new
any_job_fault job tree repo Failed (Ok x) old new err known = cc
any_job_fault job tree repo Failed (Err e) old new err known = known e

pub none_answered : (kind : JobKind) (tree repo : Content) (old : Option Text) → AreAnswered kind tree repo [] old old
unfolding replies
none_answered kind tree repo old = record { reached = tt; written = none_written old }

pub one_more : (items : List rust_item.Item) (k : ℕ) (item : rust_item.Item) → k < length items → item ≡ get_or items k item → items_of (take (k + 1) items) ≡ items_of (take k items) ++ item_of item ∷ []
one_more items k item lt is = map_more item_of items k item lt ∙ ap (λ (x : rust_item.Item). items_of (take k items) ++ item_of x ∷ []) (sym is)

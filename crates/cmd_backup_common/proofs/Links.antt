-- Links that were given their folders read what the used links read.
use Rattle.std.proofs.Common.{ℕ, zero, suc, ◌≡◌, ◌<◌, ◌+◌, List, [], ◌∷◌, Option, Some, None, length, refl, sym, ap, subst, ◌∙◌, arith, slice_get, length-append}
use Rattle.std.specs.Prelude.{IfSome, IsSomeAnd, String}
use Rattle.std.specs.declared.alloc.Global.{Global}
use Rattle.std.specs.List.{AllByRecursion}
use Rattle.std.proofs.lemmas.Option.{slice_get_within}
use Rattle.base_devices.specs.Content.{Content}
use Rattle.base_devices.specs.Links.{LinkState, Modelled}
use Rattle.base_model.specs.Repository.{Backup}
use Rattle.base_model.specs.Steps.{Command}
use Rattle.base_model.specs.Text.{Text}
use Rattle.worker_protocol.specs.declared.frames.frames.Root.TheVariants.{Repo}
use Rattle.worker_protocol.specs.declared.frames.frames.JobKind.{JobKind}
use Rattle.worker_protocol.specs.declared.frames.frames.JobKind.TheVariants.{Read, Digest}
use Rattle.worker_protocol.specs.Frames.{Item, Job, spell}
use Rattle.worker_protocol.specs.Frames.Frame.{Setup, Task}
use Rattle.worker_protocol.specs.Replies.{reply}
use Rattle.worker_protocol.specs.declared.sinks.ItemEnd.{ItemEnd}
use Rattle.worker_protocol.specs.declared.sinks.ItemEnd.TheVariants.{Whole, Vanished}
use Rattle.worker_protocol.specs.PartSinkState.{Held, Done, JobItems}
use Rattle.worker_pool.specs.Going.{IsDrained}
use Rattle.worker_pool.specs.Reads.{Reads, WhereRead, IsSteadyWorker, IsPayload, IsSumOf, EndsAs, AllEnd, file_of}
use Rattle.worker_pool.specs.declared.dispatch.fault.Lost.{Lost}
use Rattle.worker_pool.specs.Payloads.{AllRead}
use Rattle.worker_pool.specs.Run.{EndedBy, AllDone, IsLoss, IsReady, Left, AllLost, begun, somes}
use Rattle.worker_pool.proofs.Going.{some_of, is_some_at, get_some}
use Rattle.worker_pool.proofs.Reading.{all_at}
use Rattle.backup_sink.specs.declared.keeper.EndedItem.{EndedItem}
use Rattle.backup_make.specs.declared.draft.Draft.{Draft}
use Rattle.backup_make.specs.Draft.{jobs_in}
use Rattle.backup_make.specs.Faults.{WhereDone}
use Rattle.backup_lemmas.specs.Backups.{IsOfLink, IsReadBy, IsFullBackup}
use Rattle.cmd_backup_common.specs.Beginning.{AreLost}
use Rattle.cmd_backup_common.specs.Making.{CannotRead}

-- ---- one link

module _ (a b : Modelled) (same : b.answer ≡ a.answer) (tree repo : Content) where
  reads_on : Reads tree repo a → Reads tree repo b
  reads_on r = record {
    job = λ j fits. subst (λ (f : Text → Text). f (spell (Task j)) ≡ reply j tree repo) (sym same) (r.job j fits);
    setup = λ x fits. subst (λ (f : Text → Text). f (spell (Setup x)) ≡ []) (sym same) (r.setup x fits);
  }

  reads_back : Reads tree repo b → Reads tree repo a
  reads_back r = record {
    job = λ j fits. subst (λ (f : Text → Text). f (spell (Task j)) ≡ reply j tree repo) same (r.job j fits);
    setup = λ x fits. subst (λ (f : Text → Text). f (spell (Setup x)) ≡ []) same (r.setup x fits);
  }

-- what holds of the files that the later one reads holds of those that the first one reads
pub where_back : (from now : Option Modelled) (P : Content → Content → Type 0) → IsDrained from now → WhereRead now P → WhereRead from P
where_back None None P d h = tt
where_back None (Some b) P d h = absurd d
where_back (Some a) None P d h = absurd d
where_back (Some a) (Some b) P d h = λ tree repo r. h tree repo (reads_on a b d.0.0 tree repo r)

read_on : (from now : Option Modelled) (tree repo : Content) → IsDrained from now → IsSomeAnd from (Reads tree repo) → IsSomeAnd now (Reads tree repo)
read_on None now tree repo d r = absurd r
read_on (Some a) None tree repo d r = absurd d
read_on (Some a) (Some b) tree repo d r = reads_on a b d.0.0 tree repo r

worker_on : (from now : Option Modelled) → IsDrained from now → IsSteadyWorker from → IsSteadyWorker now
worker_on None now d w = absurd w
worker_on (Some a) None d w = absurd d
worker_on (Some a) (Some b) d w = record { steady = d.0.1 ∙ w.steady; tree = w.tree; repo = w.repo; reads = reads_on a b d.0.0 w.tree w.repo w.reads }

ready_known : (from now : Option Modelled) → IsDrained from now → IfSome now (λ t. (tree repo : Content) → Reads tree repo t → t.pending ≡ [])
ready_known from None d = tt
ready_known None (Some b) d = absurd d
ready_known (Some a) (Some b) d = λ tree repo r. d.1 tree repo (reads_back a b d.0.0 tree repo r)

-- how items ended by the later one's reply
ends_back : (from now : Option Modelled) → IsDrained from now → (kind : JobKind) (i : Item) (held : Held) (end : ItemEnd) → EndsAs now kind i held end → EndsAs from kind i held end
ends_back from now d Read i held (Whole n sum) h = record {
  bytes = h.bytes;
  holds = h.holds;
  sums = h.sums;
  size = h.size;
  read = where_back from now (λ tree repo. IsPayload i (file_of i tree repo) h.bytes) d h.read;
}
ends_back from now d Digest i held (Whole n sum) h =
    (h.0, h.1, where_back from now (λ tree repo. (bytes : Text) × IsPayload i (file_of i tree repo) bytes × IsSumOf n sum.0 bytes) d h.2)
ends_back from now d Read i held Vanished h = (h.0, h.1, where_back from now (λ tree repo. file_of i tree repo ≡ None) d h.2)
ends_back from now d Digest i held Vanished h = (h.0, h.1, where_back from now (λ tree repo. file_of i tree repo ≡ None) d h.2)

all_back : (from now : Option Modelled) → IsDrained from now → (kind : JobKind) (is : List Item) (ds : List Done) → AllEnd now kind is ds → AllEnd from kind is ds
all_back from now d kind [] [] h = tt
all_back from now d kind [] (x ∷ ds) h = h
all_back from now d kind (i ∷ is) [] h = h
all_back from now d kind (i ∷ is) (x ∷ ds) h = (ends_back from now d kind i x.held x.end h.0, all_back from now d kind is ds h.1)

-- ---- slots

somes_in : (slots : List (Option LinkState)) (k : ℕ) (s : LinkState) → slice_get (somes slots) k ≡ Some s → (i : ℕ) × (slice_get slots i ≡ Some (Some s))
somes_in [] k s is = absurd (let e : ◌≡◌ {A = Option LinkState} None (Some s) = is in cc)
somes_in (None ∷ slots) k s is = let x = somes_in slots k s is in (suc x.0, x.1)
somes_in (Some y ∷ slots) zero s is = (zero, ap (λ (o : Option LinkState). Some o) is)
somes_in (Some y ∷ slots) (suc k) s is = let x = somes_in slots k s is in (suc x.0, x.1)

some_some : (y s : LinkState) → ◌≡◌ {A = Option (Option LinkState)} (Some (Some y)) (Some (Some s)) → y ≡ s
some_some y s e = cc

somes_at : (slots : List (Option LinkState)) (i : ℕ) (s : LinkState) → slice_get slots i ≡ Some (Some s) → (k : ℕ) × (slice_get (somes slots) k ≡ Some s)
somes_at [] i s is = absurd (let e : ◌≡◌ {A = Option (Option LinkState)} None (Some (Some s)) = is in cc)
somes_at (None ∷ slots) zero s is = absurd (let e : ◌≡◌ {A = Option (Option LinkState)} (Some None) (Some (Some s)) = is in cc)
somes_at (None ∷ slots) (suc i) s is = somes_at slots i s is
somes_at (Some y ∷ slots) zero s is = (zero, ap (λ (x : LinkState). Some x) (some_some y s is))
somes_at (Some y ∷ slots) (suc i) s is = let x = somes_at slots i s is in (suc x.0, x.1)

by_each : {X : Type 0} (P : X → Type 0) (xs : List X) → ((k : ℕ) (x : X) → slice_get xs k ≡ Some x → P x) → AllByRecursion P xs
by_each P [] h = tt
by_each P (x ∷ xs) h = (h zero x refl, by_each P xs (λ k y is. h (suc k) y is))

-- ---- the links that are left

-- each of them comes from a used one, and reads what that reads
pub record Comes (used now : List LinkState) : Type 0 where
  pub comes : (k : ℕ) (s : LinkState) → slice_get now k ≡ Some s → (i : ℕ) × (from : LinkState) × (slice_get used i ≡ Some from) × IsDrained from.known s.known

pub left_comes : (used now : List LinkState) (before after : List Lost) → Left [] used before after now → Comes used now
left_comes used now before after l = record {
  comes = λ k s is.
      let x = somes_in l.slots k s (ap (λ (xs : List LinkState). slice_get xs k) (sym l.now_are) ∙ is) in
      let within = slice_get_within l.slots x.0 (Some s) x.1 in
      let from = get_some used x.0 (omega (arith, within, l.slot_count)) in
      (x.0, from.0, from.1, (l.rests x.0 from.0 s from.1 x.1).drained);
}

module _ (used now : List LinkState) (comes : Comes used now) where
  pub left_ready : (k : ℕ) (s : LinkState) → slice_get now k ≡ Some s → IsReady s
  left_ready k s is = let x = comes.comes k s is in ready_known x.1.known s.known x.3

  pub all_read_on : (tree repo : Content) → AllRead tree repo used → AllRead tree repo now
  all_read_on tree repo all = by_each (λ (s : LinkState). IsSomeAnd s.known (Reads tree repo)) now (λ k s is.
      let x = comes.comes k s is in
      read_on x.1.known s.known tree repo x.3 (all_at (λ (t : LinkState). IsSomeAnd t.known (Reads tree repo)) used x.0 x.1 all x.2))

  -- what one of them read a used link read
  pub link_by_used : (path bytes : Text) → IsOfLink now path bytes → IsOfLink used path bytes
  link_by_used path bytes r =
      let u = comes.comes r.0 r.1 r.3 in
      (u.0, u.1, r.2, u.2, r.4, r.5, where_back u.1.known r.1.known (λ tree repo. IsPayload r.2 (file_of r.2 tree repo) bytes) u.3 r.6)

  pub read_by_used : (b : Backup) → IsReadBy now b → IsReadBy used b
  read_by_used b h = record { read = λ path x has some. link_by_used path x.bytes (h.read path x has some) }

  pub full_by_used : (command : Command) → IsFullBackup now command → IsFullBackup used command
  full_by_used command h = (h.0, h.1, read_by_used h.0 h.2)

  ended_by_used : (job : Job) (k : JobItems) → EndedBy now job k → EndedBy used job k
  ended_by_used job k h =
      let u = comes.comes h.link h.from h.is in
      record { link = u.0; from = u.1; is = u.2; items = all_back u.1.known h.from.known u.3 job.kind job.items k.done h.items }

  done_by_used : (jobs : List Job) (kept : List JobItems) → AllDone jobs now kept → AllDone jobs used kept
  done_by_used jobs kept done = λ j job is.
      let k = some_of (EndedBy now job) (slice_get kept j) (done j job is) in
      is_some_at (EndedBy used job) (slice_get kept j) k.0 k.1 (ended_by_used job k.0 k.2)

  pub where_done : (d : Draft) (P : List (List EndedItem) → Type 0) → WhereDone d now P → WhereDone d used P
  where_done d P h = (h.0, record { kept = h.1.kept; received = done_by_used (jobs_in d) h.1.kept h.1.received; are = h.1.are }, h.2)

  pub unread_used : (d : Draft) (path : String Global) → CannotRead d now path → CannotRead d used path
  unread_used d path h =
      let u = comes.comes h.link h.from h.from_is in
      record {
        link = u.0;
        from = u.1;
        from_is = u.2;
        job = h.job;
        job_is = h.job_is;
        item = h.item;
        item_is = h.item_is;
        path_is = h.path_is;
        unread = where_back u.1.known h.from.known (λ tree repo. (h.item.root ≡ Repo) × (file_of h.item tree repo ≡ None)) u.3 h.unread;
      }

-- ---- the links that were lost

-- a link that has its loss isn't a steady worker
unsteady_at : (jobs : List Job) (links : List LinkState) (entries : List Lost) → AllByRecursion (IsLoss jobs links) entries → (i : ℕ) (from : LinkState) → slice_get links i ≡ Some from
    → (k : ℕ) × (e : Lost) × (slice_get entries k ≡ Some e) × (e.place ≡ i) → ¬ IsSteadyWorker from.known
unsteady_at jobs links entries each i from is x w =
    let loss = all_at (IsLoss jobs links) entries x.0 x.1 each x.2 in
    let e : ◌≡◌ {A = Option LinkState} (Some loss.from) (Some from) = sym loss.is ∙ ap (λ (n : ℕ). slice_get links n) x.3 ∙ is in
    let same : loss.from ≡ from = cc in
    loss.unsteady (subst (λ (s : LinkState). IsSteadyWorker s.known) (sym same) w)

-- while the links were given their folders
pub known_lost : (used : List LinkState) (after : List Lost) (lost : ℕ) → AllLost [] (begun used []) after → lost ≡ length after → AreLost used lost
known_lost used after lost all count = record {
  count = count ∙ ap (λ (es : List Lost). length es) all.is ∙ all.count;
  unsteady = λ i from is. unsteady_at [] used all.entries all.each i from is (all.has i (slice_get_within used i from is));
}

-- then, or afterwards
module _ (jobs : List Job) (used now : List LinkState) (mid after : List Lost) (l : Left [] used [] mid now) (all : AllLost jobs (begun now mid) after) where
  lost_slot : (i : ℕ) (from : LinkState) → slice_get used i ≡ Some from → (o : Option LinkState) → slice_get l.slots i ≡ Some o → ¬ IsSteadyWorker from.known
  lost_slot i from is None at = unsteady_at [] used l.entries l.each i from is (l.gone i at)
  lost_slot i from is (Some s) at = λ w.
      let x = somes_at l.slots i s at in
      let here : slice_get now x.0 ≡ Some s = ap (λ (xs : List LinkState). slice_get xs x.0) l.now_are ∙ x.1 in
      unsteady_at jobs now all.entries all.each x.0 s here (all.has x.0 (slice_get_within now x.0 s here))
      (worker_on from.known s.known (l.rests i from s is at).drained w)

  all_count : length after ≡ length used
  all_count =
      let first : length mid ≡ length l.entries = ap (λ (es : List Lost). length es) l.is in
      let both : length after ≡ length mid + length all.entries = ap (λ (es : List Lost). length es) all.is ∙ length-append mid all.entries in
      omega (arith, first, both, l.once, all.count)

  pub all_used_lost : (lost : ℕ) → lost ≡ length after → AreLost used lost
  all_used_lost lost count = record {
    count = count ∙ all_count;
    unsteady = λ i from is.
        let within = slice_get_within used i from is in
        let slot = get_some l.slots i (omega (arith, within, l.slot_count)) in
        lost_slot i from is slot.0 slot.1;
  }

  pub within_count : (lost most : ℕ) → (length after < most → lost ≡ length after) → length used < most → lost ≡ length after
  within_count lost most h few = h (omega (arith, few, all_count))

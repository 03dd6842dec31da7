-- How many read jobs links were sent.
use Rattle.std.proofs.Common.{ℕ, zero, suc, ◌≡◌, ◌≢◌, ◌≤◌, ◌+◌, ◌-◌, ◌^◌, List, [], ◌∷◌, Bool, true, false, Option, Some, None, length, replicate, refl, sym, ap, subst, arith, slice_get, set, length-set}
use Rattle.std.specs.Prelude.{if◌then◌else◌}
use Rattle.std.specs.List.{AllByRecursion}
use Rattle.base_devices.specs.Links.{LinkState, Sends, bumped, is_read_job}
use Rattle.base_model.specs.Text.{Text}
use Rattle.worker_protocol.specs.declared.frames.frames.JobKind.{JobKind}
use Rattle.worker_protocol.specs.declared.frames.frames.JobKind.TheVariants.{Read, Digest}
use Rattle.worker_protocol.specs.Frames.{Item, Job, job_bytes, spell}
use Rattle.worker_protocol.specs.Frames.Frame.{Task}
use Rattle.worker_pool.specs.Dispatch.{AllEnded}
use Rattle.worker_pool.specs.declared.jobs.JobPlace.{JobPlace}
use Rattle.worker_pool.specs.declared.jobs.JobPlace.TheVariants.{Waiting, Ended}
use Rattle.worker_pool.specs.declared.jobs.LinkPlace.{LinkPlace}
use Rattle.worker_pool.specs.declared.jobs.LinkPlace.TheVariants.{Idle, Busy, Lost}
use Rattle.worker_pool.specs.declared.dispatch.fault.Lost.{Lost as Entry}
use Rattle.worker_pool.specs.Counts.{one_if_read, read_jobs, one_if_sent, sent_reads, reads_of, NoneFull, AllSteady, ReadsRise}
use Rattle.worker_pool.specs.Run.{State, Began, IsLoss, live, somes, Going, begun}
use Rattle.worker_pool.proofs.Counting.{alive, live_set}
use Rattle.worker_pool.proofs.Going.{ReadsAt, some_same}

-- ---- what sending a job's frame counts

abbrev is_read : JobKind → Bool
is_read Read = true
is_read Digest = false

read_frame : (kind : JobKind) (items : List Item) → is_read_job (spell (Task (record { kind = kind; items = items }))) ≡ is_read kind
unfolding job_bytes
read_frame Read items = refl
read_frame Digest items = refl

frame_reads : (kind : JobKind) (old new : ℕ) → new ≡ (if is_read kind then bumped old else old) → new ≢ 2 ^ 64 - 1 → (old ≢ 2 ^ 64 - 1) × (new ≡ old + one_if_read kind)
frame_reads Read old new e n = ((λ f. n (omega (arith, e, f))), omega (arith, e, n))
frame_reads Digest old new e n = ((λ f. n (omega (arith, e, f))), omega (arith, e))

pub reads_sent : (old new : LinkState) (job : Job) (frame : Text) → Sends old new frame → frame ≡ spell (Task job) → new.reads ≢ 2 ^ 64 - 1 → (old.reads ≢ 2 ^ 64 - 1) × (new.reads ≡ old.reads + one_if_read job.kind)
reads_sent old new job frame s e n =
    let sent : new.reads ≡ (if is_read_job (spell (Task job)) then bumped old.reads else old.reads) = subst (λ f. new.reads ≡ (if is_read_job f then bumped old.reads else old.reads)) e s.reads in
    frame_reads job.kind old.reads new.reads (subst (λ (x : Bool). new.reads ≡ (if x then bumped old.reads else old.reads)) (read_frame job.kind job.items) sent) n

-- ---- lists

reads_set : (xs : List (Option LinkState)) (i : ℕ) (old new : LinkState) → slice_get xs i ≡ Some (Some old) → reads_of (somes (set xs i (Some new))) + old.reads ≡ reads_of (somes xs) + new.reads
reads_set [] i old new e = absurd (let f : None ≡ Some (Some old) = e in cc)
reads_set (x ∷ xs) zero old new e = subst (λ y. reads_of (somes (Some new ∷ xs)) + old.reads ≡ reads_of (somes (y ∷ xs)) + new.reads) (sym (some_same x (Some old) e)) (omega arith)
reads_set (None ∷ xs) (suc i) old new e = reads_set xs i old new e
reads_set (Some x ∷ xs) (suc i) old new e = omega (arith, reads_set xs i old new e)

none_full : (xs : List (Option LinkState)) (i : ℕ) (old new : LinkState) → slice_get xs i ≡ Some (Some old) → (new.reads ≢ 2 ^ 64 - 1 → old.reads ≢ 2 ^ 64 - 1) → NoneFull (somes (set xs i (Some new))) → NoneFull (somes xs)
none_full [] i old new e f h = absurd (let q : None ≡ Some (Some old) = e in cc)
none_full (x ∷ xs) zero old new e f h = subst (λ y. NoneFull (somes (y ∷ xs))) (sym (some_same x (Some old) e)) (f h.0, h.1)
none_full (None ∷ xs) (suc i) old new e f h = none_full xs i old new e f h
none_full (Some x ∷ xs) (suc i) old new e f h = (h.0, none_full xs i old new e f h.1)

not_full : (xs : List (Option LinkState)) (i : ℕ) (old new : LinkState) → slice_get xs i ≡ Some (Some old) → NoneFull (somes (set xs i (Some new))) → new.reads ≢ 2 ^ 64 - 1
not_full [] i old new e h = absurd (let q : None ≡ Some (Some old) = e in cc)
not_full (x ∷ xs) zero old new e h = h.0
not_full (None ∷ xs) (suc i) old new e h = not_full xs i old new e h
not_full (Some x ∷ xs) (suc i) old new e h = not_full xs i old new e h.1

sent_set : (jobs : List Job) (places : List JobPlace) (j : ℕ) (job : Job) (o P : JobPlace) → slice_get jobs j ≡ Some job → slice_get places j ≡ Some o → sent_reads jobs (set places j P) + one_if_sent job.kind o ≡ sent_reads jobs places + one_if_sent job.kind P
sent_set [] places j job o P e f = absurd (let q : None ≡ Some job = e in cc)
sent_set (x ∷ jobs) [] j job o P e f = absurd (let q : None ≡ Some o = f in cc)
sent_set (x ∷ jobs) (p ∷ places) zero job o P e f =
    subst (λ (y : Job). sent_reads (x ∷ jobs) (P ∷ places) + one_if_sent y.kind o ≡ sent_reads (x ∷ jobs) (p ∷ places) + one_if_sent y.kind P) (some_same x job e)
    (subst (λ (y : JobPlace). sent_reads (x ∷ jobs) (P ∷ places) + one_if_sent x.kind y ≡ sent_reads (x ∷ jobs) (p ∷ places) + one_if_sent x.kind P) (some_same p o f) (omega arith))
sent_set (x ∷ jobs) (p ∷ places) (suc j) job o P e f = omega (arith, sent_set jobs places j job o P e f)

pub sent_none : (jobs : List Job) (n : ℕ) → sent_reads jobs (replicate n Waiting) ≡ 0
sent_none [] n = refl
sent_none (j ∷ js) zero = refl
sent_none (j ∷ js) (suc n) = omega (arith, sent_none js n)

sent_all : (jobs : List Job) (places : List JobPlace) → length places ≡ length jobs → AllEnded places → sent_reads jobs places ≡ read_jobs jobs
sent_all [] places n over = refl
sent_all (j ∷ js) [] n over = absurd (omega (arith, n))
sent_all (j ∷ js) (p ∷ ps) n over =
    let first : one_if_sent j.kind p ≡ one_if_read j.kind = ap (one_if_sent j.kind) (some_same p Ended (over 0 (omega arith))) in
    let rest = sent_all js ps (omega (arith, n)) (λ k lt. over (suc k) (omega (arith, lt))) in
    omega (arith, first, rest)

-- ---- what an event leaves of the counts

live_le : (ls : List LinkPlace) → live ls ≤ length ls
live_le [] = omega arith
live_le (Lost ∷ ls) = omega (arith, live_le ls)
live_le (Idle ∷ ls) = omega (arith, live_le ls)
live_le (Busy j ∷ ls) = omega (arith, live_le ls)

-- a lost link's count is not known
pub reads_lost : (jobs : List Job) (b : Began) (places : List JobPlace) (ls : List LinkPlace) (slots : List (Option LinkState)) (i : ℕ) (u : LinkPlace) → slice_get ls i ≡ Some u → alive u ≡ 1 → ReadsAt jobs b places (set ls i Lost) slots
reads_lost jobs b places ls slots i u e a = λ all. absurd (omega (arith, all, a, live_set ls i u Lost e, live_le ls, length-set ls i Lost))

-- the count of one link, and the place of one job, change together
pub reads_go : (jobs : List Job) (b : Began) (s : State) (i j : ℕ) (job : Job) (o P : JobPlace) (u Q : LinkPlace) (old new : LinkState) → Going jobs b s → slice_get s.job_table.links i ≡ Some u → alive u ≡ 1 → alive Q ≡ 1 → slice_get s.slots i ≡ Some (Some old)
    → slice_get jobs j ≡ Some job → slice_get s.job_table.jobs j ≡ Some o → (new.reads ≢ 2 ^ 64 - 1 → (old.reads ≢ 2 ^ 64 - 1) × (new.reads + one_if_sent job.kind o ≡ old.reads + one_if_sent job.kind P))
    → ReadsAt jobs b (set s.job_table.jobs j P) (set s.job_table.links i Q) (set s.slots i (Some new))
reads_go jobs b s i j job o P u Q old new g el a c at is ej step = λ all none.
    let w = step (not_full s.slots i old new at none) in
    let was = g.reads (omega (arith, all, a, c, live_set s.job_table.links i u Q el, length-set s.job_table.links i Q)) (none_full s.slots i old new at (λ n. (step n).0) none) in
    omega (arith, w.1, was, reads_set s.slots i old new at, sent_set jobs s.job_table.jobs j job o P is ej)

-- ---- at the end

pub all_at : {X : Type 0} (P : X → Type 0) (xs : List X) (i : ℕ) (x : X) → AllByRecursion P xs → slice_get xs i ≡ Some x → P x
all_at P [] i x h e = absurd (let q : None ≡ Some x = e in cc)
all_at P (y ∷ xs) zero x h e = subst P (some_same y x e) h.0
all_at P (y ∷ xs) (suc i) x h e = all_at P xs i x h.1 e

none_lost : (jobs : List Job) (links : List LinkState) (entries : List Entry) → AllSteady links → AllByRecursion (IsLoss jobs links) entries → length entries ≡ 0
none_lost jobs links [] steady h = refl
none_lost jobs links (e ∷ es) steady h = absurd (h.0.unsteady (all_at _ links e.place h.0.from steady h.0.is))

pub reads_rise : (jobs : List Job) (links : List LinkState) (lost : List Entry) (s : State) (now : List LinkState) → Going jobs (begun links lost) s → AllEnded s.job_table.jobs → now ≡ somes s.slots → ReadsRise jobs links now
reads_rise jobs links lost s now g over e = λ steady none.
    let zero_lost = none_lost jobs links g.losses.entries steady g.losses.each in
    let was = g.reads (omega (arith, zero_lost, g.losses.count)) (subst NoneFull e none) in
    omega (arith, was, ap reads_of e, sent_all jobs s.job_table.jobs g.job_count over)

-- What giving a job leaves of a run.
use Rattle.std.proofs.Common.{ℕ, zero, suc, ◌≡◌, ◌<◌, ◌≤◌, ◌+◌, ◌-◌, ◌*◌, ◌^◌, ◌⊎◌, inl, inr, List, [], ◌∷◌, ◌++◌, true, Option, Some, None, Result, Ok, Err, length, refl, sym, ap, subst, arith, ◌∙◌, slice_get, set, length-set}
use Rattle.std.specs.Prelude.{IsSomeAnd, IfErr, OnOk, OnErr, min}
use Rattle.std.proofs.lemmas.Option.{slice_get_within}
use Rattle.base_devices.specs.Cause.{Rises}
use Rattle.base_devices.specs.Links.{LinkState, Modelled, Sends, Answers, bumped}
use Rattle.base_devices.specs.declared.device_error.DeviceError.{DeviceError}
use Rattle.base_devices.specs.declared.device_error.DeviceError.TheVariants as stops
use Rattle.base_model.specs.Text.{Text}
use Rattle.worker_protocol.specs.Frames.{Item, Job, FitsJob, spell}
use Rattle.worker_protocol.specs.Frames.Frame.{Task}
use Rattle.worker_protocol.specs.PartSinkState.{JobItems, PartSinkState, IsFresh, Clears}
use Rattle.worker_protocol.specs.Lists.{ChangesAt}
use Rattle.worker_pool.specs.Dispatch.{Dispatch, IsLowest, NoneWaits, after_give, after_drop}
use Rattle.worker_pool.specs.declared.jobs.JobPlace.TheVariants.{Waiting, With}
use Rattle.worker_pool.specs.declared.jobs.LinkPlace.{LinkPlace}
use Rattle.worker_pool.specs.declared.jobs.LinkPlace.TheVariants.{Idle, Busy, Lost}
use Rattle.worker_pool.proofs.Places.{get_set_same, get_set_cases, within}
use Rattle.worker_protocol.specs.declared.replies.cause.LostCause.TheVariants.{Device}
use Rattle.worker_protocol.proofs.Prefixes.{takes_none}
use Rattle.worker_pool.specs.declared.replies.receiving.Receiving.{Receiving}
use Rattle.worker_pool.specs.Receivings.{StartsAt}
use Rattle.worker_pool.specs.Reads.{IsSteadyWorker, AllEnd}
use Rattle.worker_pool.specs.Going.{ShowsItem, ShowsItems, IsDrained, Goes}
use Rattle.worker_pool.proofs.Modelled.{shows_first}
use Rattle.worker_pool.specs.declared.dispatch.fault.Lost.{Lost as Entry}
use Rattle.worker_pool.specs.declared.dispatch.fault.DispatchFault.{DispatchFault}
use Rattle.worker_pool.specs.DispatchFaults.{IsQuiet}
use Rattle.worker_pool.specs.Slots.{Both, SentOver, SlotSends}
use Rattle.worker_pool.specs.Run.{State, Began, ReceivedSince, Rests, LinkGoes, JobGoes, IsLoss, Losses, ShowsLosses, live, Going, Runs, GoesOn, Changed, Gave, Settles, total, work, measure}
use Rattle.worker_pool.proofs.Counting.{live_set, work_le, lost_falls}
use Rattle.worker_pool.proofs.Going.{some_of, some_same, get_some, set_is, set_twice, Moves, not_over, going_update, losses_stay, losses_more, known_more, shows_same}
use Rattle.worker_pool.proofs.Reading.{reads_go, reads_lost, reads_sent}
use Rattle.worker_pool.proofs.Events.{both_there}

-- an idle link
record AtIdle (jobs : List Job) (b : Began) (s : State) (i : ℕ) : Type 0 where
  receive_reply : Receiving
  receive_is : slice_get s.receivings i ≡ Some receive_reply
  now : LinkState
  slot_is : slice_get s.slots i ≡ Some (Some now)
  from : LinkState
  from_is : slice_get b.links i ≡ Some from
  rests : Rests b (length jobs) from now

slot_rests : (jobs : List Job) (b : Began) (s : State) (from : LinkState) (i : ℕ) (h : Receiving) (slot : Option LinkState) → LinkGoes jobs b s.job_table.jobs s.kept.kept from i Idle h slot → (now : LinkState) × (slot ≡ Some now) × Rests b (length jobs) from now
slot_rests jobs b s from i h None g = absurd g
slot_rests jobs b s from i h (Some now) g = (now, refl, g)

idle_of : (jobs : List Job) (b : Began) (s : State) (i : ℕ) → Going jobs b s → slice_get s.job_table.links i ≡ Some Idle → AtIdle jobs b s i
idle_of jobs b s i g idle =
    let lt = within s.job_table.links i Idle idle in
    let h = get_some s.receivings i (omega (arith, lt, g.link_count, g.receive_count)) in
    let slot = get_some s.slots i (omega (arith, lt, g.link_count)) in
    let from = some_of (λ (f : LinkState). LinkGoes jobs b s.job_table.jobs s.kept.kept f i Idle h.0 slot.0) (slice_get b.links i) (g.each_link i Idle h.0 slot.0 idle h.1 slot.1) in
    let there = slot_rests jobs b s from.0 i h.0 slot.0 from.2 in
    record { receive_reply = h.0; receive_is = h.1; now = there.0; slot_is = slot.1 ∙ ap Some there.1; from = from.0; from_is = from.1; rests = there.2 }

-- ---- what a job's frame leaves

shows_sent : (from old new : Option Modelled) (job : Job) (frame : Text) → IsDrained from old → Answers old new frame → FitsJob job → frame ≡ spell (Task job) → ShowsItems job.kind job.items from new
shows_sent None None None job frame h t f e = tt
shows_sent None None (Some c) job frame h t f e = absurd (let q : Some c ≡ None = t in cc)
shows_sent None (Some b) new job frame h t f e = absurd h
shows_sent (Some a) None new job frame h t f e = absurd h
shows_sent (Some a) (Some b) None job frame h t f e = absurd (let q : None ≡ Some (record b { pending = b.pending ++ b.answer frame }) = t in cc)
shows_sent (Some a) (Some b) (Some c) job frame h t f e =
    let same : record b { pending = b.pending ++ b.answer frame } ≡ c = (let w = t in cc) in
    subst (λ x. ShowsItems job.kind job.items (Some a) (Some x)) same
    (h.0, λ tree repo r. ap (λ l. l ++ b.answer frame) (h.1 tree repo r) ∙ ap (λ (g : Text → Text). g frame) h.0.0 ∙ ap a.answer e ∙ r.job job f)

steady_kept : (from now : Option Modelled) → IsDrained from now → IsSteadyWorker from → IsSomeAnd now (λ t. t.steady ≡ true)
steady_kept None now h w = absurd w
steady_kept (Some a) None h w = absurd h
steady_kept (Some a) (Some b) h w = h.0.1 ∙ w.steady

begin_goes : (from new : Option Modelled) (job : Job) (k : JobItems) (h : Receiving) (items : List Item) → job.items ≡ items → 0 < length items → ShowsItems job.kind items from new → IsFresh k → StartsAt 0 h → Goes from new job k h
begin_goes from new job k h [] e some known fresh starts = absurd (omega arith)
begin_goes from new job k h (x ∷ xs) e some known fresh starts = record {
  past = [];
  next = x;
  left = xs;
  bytes = [];
  parts = 0;
  split = e;
  index = starts.item;
  count = starts.count;
  aligned = λ full. grind arith;
  digest = starts.digest;
  held = fresh.held;
  ended = subst (AllEnd from job.kind []) (sym fresh.done) tt;
  room = omega arith;
  none = λ kind. refl;
  known = subst (λ full. ShowsItem job.kind x xs [] full from new) (sym starts.full) (shows_first job.kind x xs from new known);
}

bump_rises : (a n m : ℕ) → min a (2 ^ 64 - 1) ≤ n → m ≡ bumped n → Rises a m
bump_rises a n m le e = omega (arith, le, e)

bump_later : (a n m : ℕ) → min a (2 ^ 64 - 1) ≤ n → m ≡ bumped n → min a (2 ^ 64 - 1) ≤ m
bump_later a n m le e = omega (arith, le, e)

jobs_sent : (old new : LinkState) (job : Job) (frame : Text) → Sends old new frame → frame ≡ spell (Task job) → new.jobs ≡ bumped old.jobs
jobs_sent old new job frame s e = subst (λ f. Sends old new f → new.jobs ≡ bumped old.jobs) (sym e) (λ t. t.jobs) s

-- nothing was received since the job was sent
since_sent : (job : Job) (from now : LinkState) (n : ℕ) → ShowsItems job.kind job.items from.known now.known → now.faults ≡ from.faults → n ≡ 0 → ReceivedSince job from now n
since_sent job from now n shows faults e = record { begun = now; shows = shows; faults = faults; receivings = record { bytes = []; takes = takes_none now; count = omega (arith, e) } }

pub going_given : (jobs : List Job) (b : Began) (s t : State) (i j : ℕ) (job : Job) (frame : Text) (h : Receiving) → Going jobs b s → slice_get s.job_table.links i ≡ Some Idle → IsLowest s.job_table j × (t.job_table ≡ after_give s.job_table i j) → slice_get jobs j ≡ Some job → FitsJob job → frame ≡ spell (Task job)
    → ChangesAt (Both (λ x y. Sends x y frame)) s.slots t.slots i → t.receivings ≡ set s.receivings i h → StartsAt 0 h → h.received_reply ≡ 0 → t.kept ≡ s.kept → t.lost ≡ s.lost → Going jobs b t
going_given jobs b s t i j job frame h g idle given is fits spelled sent receivings starts zero_received kept lost =
    let a = idle_of jobs b s i g idle in
    let k = some_of (JobGoes b job Waiting) (slice_get s.kept.kept j) (g.each_job j job Waiting is given.0.waits) in
    let u = both_there (λ x y. Sends x y frame) (Some a.now) sent.after a.now refl (sent.by (Some a.now) a.slot_is) in
    let known : ShowsItems job.kind job.items a.from.known u.0.known = shows_sent a.from.known a.now.known u.0.known job frame a.rests.drained u.2.known fits spelled in
    let goes : Goes a.from.known u.0.known job k.0 h = begin_goes a.from.known u.0.known job k.0 h job.items refl fits.some known k.2 starts in
    let count = jobs_sent a.now u.0 job frame u.2 spelled in
    let mv : Moves s t i j (With i) (Busy j) (Some u.0) h k.0 = record {
      job_table = given.1;
      slots = sent.is ∙ ap (λ x. set s.slots i x) u.1;
      receivings = receivings;
      kept = ap (λ (x : PartSinkState). x.kept) kept ∙ sym (set_is s.kept.kept j k.0 k.1);
      jobs = ap (λ (x : PartSinkState). x.jobs) kept;
    } in
    going_update jobs b s t i j (With i) Waiting (Busy j) Idle (Some u.0) h k.0 k.0 g mv idle given.0.waits k.1 (λ c e. absurd (let f : Waiting ≡ With c = e in cc)) refl
    (subst (λ l. Losses jobs b.links b.lost l (set s.job_table.links i (Busy j))) (sym lost) (losses_stay jobs b.links b.lost s.lost s.job_table.links i Idle (Busy j) g.losses idle refl refl)) (λ over. absurd (not_over s.job_table.jobs j (With i) Waiting given.0.waits (λ q. cc) over))
    (reads_go jobs b s i j job Waiting (With i) Idle (Busy j) a.now u.0 g idle refl refl a.slot_is is given.0.waits (λ n. let r = reads_sent a.now u.0 job frame u.2 spelled n in (r.0, omega (arith, r.1)))) (λ x e. tt)
    (λ from e. let f : a.from ≡ from = some_same a.from from (sym a.from_is ∙ e) in
    subst (λ x. LinkGoes jobs b (set s.job_table.jobs j (With i)) (set s.kept.kept j k.0) x i (Busy j) h (Some u.0)) f (record {
      place = get_set_same s.job_table.jobs j (With i) Waiting given.0.waits;
      job = job;
      job_is = is;
      kept = k.0;
      kept_is = get_set_same s.kept.kept j k.0 k.0 k.1;
      goes = goes;
      faults = u.2.faults ∙ a.rests.faults;
      later = bump_later a.from.jobs a.now.jobs u.0.jobs a.rests.later count;
      sent = bump_rises a.from.jobs a.now.jobs u.0.jobs a.rests.later count;
      since = since_sent job a.from u.0 h.received_reply known (u.2.faults ∙ a.rests.faults) zero_received;
    }))

refused_is : (job_table mid last : Dispatch) (i j : ℕ) → mid ≡ after_give job_table i j → last ≡ after_drop mid i j → last ≡ record { jobs = set job_table.jobs j Waiting; links = set job_table.links i Lost }
refused_is job_table mid last i j e f =
    let a : set (set job_table.jobs j (With i)) j Waiting ≡ set job_table.jobs j Waiting = set_twice job_table.jobs j (With i) Waiting in
    let c : set (set job_table.links i (Busy j)) i Lost ≡ set job_table.links i Lost = set_twice job_table.links i (Busy j) Lost in
    f ∙ ap (λ (d : Dispatch). after_drop d i j) e ∙ ap (λ js. let d : Dispatch = record { jobs = js; links = set (set job_table.links i (Busy j)) i Lost } in d) a ∙ ap (λ ls. let d : Dispatch = record { jobs = set job_table.jobs j Waiting; links = ls } in d) c

-- a link over which a frame couldn't be sent
refused_loss : (jobs : List Job) (b : Began) (s : State) (i : ℕ) (frame : Text) (after : List (Option LinkState)) (a : AtIdle jobs b s i) → ChangesAt (SlotSends (Err stops.Failed) frame) s.slots after i → IsLoss jobs b.links (record { place = i; cause = Device })
refused_loss jobs b s i frame after a sent =
    let u = both_there (SentOver (Err stops.Failed) frame) (Some a.now) sent.after a.now refl (sent.by (Some a.now) a.slot_is) in
    record {
      from = a.from;
      is = a.from_is;
      unsteady = λ w. u.2.unsteady (steady_kept a.from.known a.now.known a.rests.drained w);
      known = tt;
      blamed = tt;
      seen = record { begun = a.now; last = u.0; same = shows_same _ a.from.known a.now.known a.rests.drained; faults = a.rests.faults; holds = u.2.rises };
    }

-- a job whose frame couldn't be sent
pub going_refused : (jobs : List Job) (b : Began) (s t : State) (i j : ℕ) (mid : Dispatch) (frame : Text) (after : List (Option LinkState)) → Going jobs b s → slice_get s.job_table.links i ≡ Some Idle → IsLowest s.job_table j × (mid ≡ after_give s.job_table i j) → t.job_table ≡ after_drop mid i j
    → ChangesAt (SlotSends (Err stops.Failed) frame) s.slots after i → t.slots ≡ set after i None → t.receivings ≡ s.receivings → Changed Clears j s.kept t.kept → t.lost ≡ s.lost ++ (record { place = i; cause = Device }) ∷ [] → j < length jobs → Going jobs b t
going_refused jobs b s t i j mid frame after g idle given job_table sent slots receivings kept lost lt =
    let a = idle_of jobs b s i g idle in
    let job = get_some jobs j lt in
    let k = some_of (JobGoes b job.0 Waiting) (slice_get s.kept.kept j) (g.each_job j job.0 Waiting job.1 given.0.waits) in
    let m = kept.2.after in
    let mv : Moves s t i j Waiting Lost None a.receive_reply m = record {
      job_table = refused_is s.job_table mid t.job_table i j given.1 job_table;
      slots = slots ∙ ap (λ l. set l i None) sent.is ∙ set_twice s.slots i sent.after None;
      receivings = receivings ∙ sym (set_is s.receivings i a.receive_reply a.receive_is);
      kept = kept.2.is;
      jobs = kept.1;
    } in
    going_update jobs b s t i j Waiting Waiting Lost Idle None a.receive_reply k.0 m g mv idle given.0.waits k.1 (λ c e. absurd (let f : Waiting ≡ With c = e in cc)) refl
    (losses_more jobs b.links b.lost s.lost t.lost s.job_table.links i Idle (record { place = i; cause = Device }) g.losses idle refl lost refl
    (refused_loss jobs b s i frame after a sent))
    (λ over. absurd (not_over s.job_table.jobs j Waiting Waiting given.0.waits (λ q. cc) over)) (reads_lost jobs b (set s.job_table.jobs j Waiting) s.job_table.links (set s.slots i None) i Idle idle refl)
    (λ x e. kept.2.by k.0 k.1) (λ from e. tt)

-- ---- idle links, and what is left

eq_or : (a c : ℕ) → (a ≡ c) ⊎ (a ≡ c → ⊥)
eq_or zero zero = inl refl
eq_or zero (suc c) = inr (λ e. omega arith)
eq_or (suc a) zero = inr (λ e. omega arith)
eq_or (suc a) (suc c) = elim (eq_or a c) [ inl e ↦ inl (ap suc e) | inr n ↦ inr (λ e. n (omega arith)) ]

settles_given : (job_table last : Dispatch) (i j : ℕ) (Q : LinkPlace) → IsLowest job_table j → last.links ≡ set job_table.links i Q → (Q ≡ Idle → ⊥) → Settles job_table last i
settles_given job_table last i j Q low e n = inr (
  j,
  low.waits,
  λ k idle. elim (get_set_cases job_table.links i k Q Idle (ap (λ l. slice_get l k) (sym e) ∙ idle)) [
    | inl q ↦ absurd (n (sym q.1))
    | inr q ↦ q
  ],
)

pub settles_ok : (job_table next : Dispatch) (i j : ℕ) → IsLowest job_table j × (next ≡ after_give job_table i j) → Settles job_table next i
settles_ok job_table next i j given = settles_given job_table next i j (Busy j) given.0 (ap (λ (d : Dispatch). d.links) given.1) (λ e. cc)

pub settles_refused : (r : Result (Unit {0}) DispatchFault) (job_table mid last : Dispatch) (i j : ℕ) → IsLowest job_table j × (mid ≡ after_give job_table i j) → OnOk r (last ≡ after_drop mid i j) → OnOk r (Settles job_table last i)
settles_refused (Err x) job_table mid last i j given e = tt
settles_refused (Ok u) job_table mid last i j given e = settles_given job_table last i j Lost given.0 (ap (λ (d : Dispatch). d.links) (refused_is job_table mid last i j given.1 e)) (λ q. cc)

pub gave_none : (jobs : List Job) (s : State) → Gave jobs s s
gave_none jobs s = record { falls = omega arith; faults = refl; links = refl }

pub gave_ok : (jobs : List Job) (s t : State) (i j : ℕ) → slice_get s.job_table.links i ≡ Some Idle → t.job_table ≡ after_give s.job_table i j → t.kept ≡ s.kept → Gave jobs s t
gave_ok jobs s t i j idle job_table kept =
    let l : live t.job_table.links ≡ live s.job_table.links = ap (λ (d : Dispatch). live d.links) job_table ∙ (let q = live_set s.job_table.links i Idle (Busy j) idle in omega (arith, q)) in
    let w : work jobs t.kept.kept ≡ work jobs s.kept.kept = ap (λ (x : PartSinkState). work jobs x.kept) kept in
    record {
      falls = subst (λ x. x * suc (total jobs) + work jobs t.kept.kept ≤ live s.job_table.links * suc (total jobs) + work jobs s.kept.kept) (sym l) (omega (arith, w));
      faults = ap (λ (x : PartSinkState). x.faults) kept;
      links = ap (λ (d : Dispatch). length d.links) job_table ∙ length-set s.job_table.links i (Busy j);
    }

pub gave_refused : (r : Result (Unit {0}) DispatchFault) (jobs : List Job) (s t : State) (mid : Dispatch) (i j : ℕ) → slice_get s.job_table.links i ≡ Some Idle → IsLowest s.job_table j × (mid ≡ after_give s.job_table i j) → OnOk r (t.job_table ≡ after_drop mid i j) → OnOk r (Changed Clears j s.kept t.kept) → OnOk r (Gave jobs s t)
gave_refused (Err x) jobs s t mid i j idle given e c = tt
gave_refused (Ok u) jobs s t mid i j idle given e c =
    let links : t.job_table.links ≡ set s.job_table.links i Lost = ap (λ (d : Dispatch). d.links) (refused_is s.job_table mid t.job_table i j given.1 e) in
    let l : suc (live t.job_table.links) ≡ live s.job_table.links = ap (λ x. suc (live x)) links ∙ (let q = live_set s.job_table.links i Idle Lost idle in omega (arith, q)) in
    let f : measure jobs t < measure jobs s = lost_falls (live t.job_table.links) (live s.job_table.links) (total jobs) (work jobs s.kept.kept) (work jobs t.kept.kept) l (work_le jobs t.kept.kept) in
    record { falls = omega (arith, f); faults = c.0; links = ap length links ∙ length-set s.job_table.links i Lost }

pub refused_goes : (r : Result (Unit {0}) DispatchFault) (e : DeviceError) (jobs : List Job) (s t : State) (i j : ℕ) (mid : Dispatch) (frame : Text) (after : List (Option LinkState)) → e ≡ stops.Failed → slice_get s.job_table.links i ≡ Some Idle → IsLowest s.job_table j × (mid ≡ after_give s.job_table i j)
    → OnOk r (t.job_table ≡ after_drop mid i j) → ChangesAt (SlotSends (Err e) frame) s.slots after i → OnOk r (t.slots ≡ set after i None) → t.receivings ≡ s.receivings → OnOk r (Changed Clears j s.kept t.kept) → OnOk r (t.lost ≡ s.lost ++ (record { place = i; cause = Device }) ∷ []) → j < length jobs
    → OnOk r (GoesOn jobs s t)
refused_goes (Err x) e jobs s t i j mid frame after q idle given job_table sent slots receivings kept lost lt = tt
refused_goes (Ok u) e jobs s t i j mid frame after q idle given job_table sent slots receivings kept lost lt = λ b g.
    going_refused jobs b s t i j mid frame after g idle given job_table (subst (λ x. ChangesAt (SlotSends (Err x) frame) s.slots after i) q sent) slots receivings kept lost lt

pub refused_known : (r : Result (Unit {0}) DispatchFault) (e : DeviceError) (jobs : List Job) (s : State) (i : ℕ) (frame : Text) (after : List (Option LinkState)) (entries : List Entry) → e ≡ stops.Failed → slice_get s.job_table.links i ≡ Some Idle → ChangesAt (SlotSends (Err e) frame) s.slots after i
    → OnErr r ((entries ≡ s.lost) ⊎ (entries ≡ s.lost ++ (record { place = i; cause = Device }) ∷ [])) → OnErr r (ShowsLosses jobs s entries)
refused_known (Ok u) e jobs s i frame after entries q idle sent known = tt
refused_known (Err x) e jobs s i frame after entries q idle sent known = known_more jobs s entries (record { place = i; cause = Device }) known (λ b g.
    let a = idle_of jobs b s i g idle in
    refused_loss jobs b s i frame after a (subst (λ y. ChangesAt (SlotSends (Err y) frame) s.slots after i) q sent))

pub has_given : (job_table next : Dispatch) (i j : ℕ) → slice_get job_table.links i ≡ Some Idle → next ≡ after_give job_table i j → slice_get next.links i ≡ Some (Busy j)
has_given job_table next i j idle e = ap (λ (d : Dispatch). slice_get d.links i) e ∙ get_set_same job_table.links i (Busy j) Idle idle

-- an idle link's places, and those of a waiting job
pub idle_within : (jobs : List Job) (s : State) (i : ℕ) → Runs jobs s → slice_get s.job_table.links i ≡ Some Idle → (i < length s.slots) × (i < length s.receivings)
idle_within jobs s i r idle =
    let a = idle_of jobs r.began s i r.going idle in
    (slice_get_within s.slots i (Some a.now) a.slot_is, slice_get_within s.receivings i a.receive_reply a.receive_is)

pub waits_within : (jobs : List Job) (s : State) (j : ℕ) → Runs jobs s → slice_get s.job_table.jobs j ≡ Some Waiting → (j < length jobs) × (j < length s.kept.kept)
waits_within jobs s j r e =
    let lt : j < length jobs = (let w = within s.job_table.jobs j Waiting e in omega (arith, w, r.going.job_count)) in
    let job = get_some jobs j lt in
    let k = some_of (JobGoes r.began job.0 Waiting) (slice_get s.kept.kept j) (r.going.each_job j job.0 Waiting job.1 e) in
    (lt, slice_get_within s.kept.kept j k.0 k.1)

-- the idle links below one more
pub settles_more : (old new : Dispatch) (i : ℕ) → Settles old new i → ((k : ℕ) → k < i → slice_get old.links k ≡ Some Idle → NoneWaits old) → (k : ℕ) → k < i + 1 → slice_get new.links k ≡ Some Idle → NoneWaits new
settles_more old new i s below k lt idle = elim s [
  | inl q ↦
      let was : slice_get old.links k ≡ Some Idle = ap (λ (d : Dispatch). slice_get d.links k) (sym q.0) ∙ idle in
      subst NoneWaits (sym q.0) (elim (eq_or k i) [
        | inl e ↦ q.1 (subst (λ x. slice_get old.links x ≡ Some Idle) e was)
        | inr n ↦ below k (omega (arith, lt, n)) was
      ])
  | inr q ↦
      let r = q.2 k idle in
      absurd (below k (omega (arith, lt, r.0)) r.1 q.0 q.1)
]

pub gave_joins : (jobs : List Job) (s t u : State) → Gave jobs s t → Gave jobs t u → Gave jobs s u
gave_joins jobs s t u p q = record { falls = omega (arith, p.falls, q.falls); faults = q.faults ∙ p.faults; links = q.links ∙ p.links }

quiet_from : (e : DispatchFault) (a b c : ℕ) → b ≡ a → IsQuiet e b c → IsQuiet e a c
quiet_from e a b c q h = subst (λ n. IsQuiet e n c) q h

-- a later fault
pub quiet_after : {A : Type 0} (r : Result A DispatchFault) (a b c : ℕ) → b ≡ a → IfErr r (λ e. IsQuiet e b c) → IfErr r (λ e. IsQuiet e a c)
quiet_after (Ok x) a b c q h = tt
quiet_after (Err e) a b c q h = quiet_from e a b c q h

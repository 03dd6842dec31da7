-- What receiving a frame leaves of a run.
use Rattle.std.proofs.Common.{ℕ, zero, suc, ◌≡◌, ◌≢◌, ◌<◌, ◌≤◌, ◌+◌, ◌-◌, ◌*◌, ◌^◌, List, [], ◌∷◌, ◌++◌, true, Option, Some, None, Result, Ok, Err, length, map, refl, sym, ap, subst, arith, ◌∙◌, slice_get, slice_index_or, set, length-set}
use Rattle.std.specs.Prelude.{IfErr, OnOk, OnErr, ◌⊎◌, All, min, option_map}
use Rattle.std.proofs.lemmas.List.{map-set, length-append}
use Rattle.std.proofs.lemmas.Option.{slice_get_within}
use Rattle.base_devices.specs.Cause.{Rises}
use Rattle.base_devices.specs.Links.{LinkState, last_five}
use Rattle.worker_protocol.specs.declared.frames.frames.JobKind.{JobKind}
use Rattle.worker_protocol.specs.Frames.{Job, FitsJob, spell}
use Rattle.worker_protocol.specs.Frames.Frame.{Unread}
use Rattle.worker_protocol.specs.PartSinkState.{JobItems, PartSinkState, Clears}
use Rattle.worker_pool.specs.Dispatch.{Dispatch, after_end, after_drop}
use Rattle.worker_pool.specs.declared.jobs.JobPlace.{JobPlace}
use Rattle.worker_pool.specs.declared.jobs.JobPlace.TheVariants.{Waiting, With, Ended}
use Rattle.worker_pool.specs.declared.jobs.LinkPlace.TheVariants.{Idle, Busy, Lost}
use Rattle.worker_pool.proofs.Places.{get_set_same}
use Rattle.worker_pool.specs.declared.replies.receiving.Receiving.{Receiving}
use Rattle.worker_pool.specs.declared.replies.reply.Verdict.{Verdict}
use Rattle.worker_pool.specs.declared.replies.reply.Verdict.TheVariants as verdicts
use Rattle.worker_pool.specs.declared.replies.fault.ReplyFault.{ReplyFault}
use Rattle.worker_pool.specs.declared.replies.fault.ReplyFault.TheVariants as takes
use Rattle.worker_protocol.specs.declared.replies.cause.LostCause.{LostCause}
use Rattle.worker_protocol.specs.declared.replies.cause.LostCause.TheVariants as causes
use Rattle.worker_protocol.specs.Takes.{HasReceived}
use Rattle.worker_protocol.proofs.Prefixes.{received_after}
use Rattle.worker_pool.specs.Receivings.{IsKnown}
use Rattle.worker_pool.specs.Reads.{AllEnd}
use Rattle.worker_pool.specs.Going.{At, VerdictHolds, FaultHolds, KeepsCounts, ReceivedOf, IsUnread, job_left}
use Rattle.worker_pool.specs.declared.dispatch.fault.Lost.{Lost as Entry}
use Rattle.worker_pool.specs.declared.dispatch.fault.DispatchFault.{DispatchFault}
use Rattle.worker_pool.specs.declared.dispatch.fault.DispatchFault.TheVariants as faults
use Rattle.worker_pool.specs.DispatchFaults.{IsQuiet}
use Rattle.worker_pool.specs.Counts.{one_if_sent}
use Rattle.worker_pool.specs.Slots.{Both, ReceivesOver, Receives, FailsOver, ReceiveFails, IsReceiving, ReceivedAt}
use Rattle.worker_pool.specs.Run.{State, Began, ReceivedSince, LinkGoes, HoldsOf, IsSeen, IsLoss, Losses, live, Going, Runs, ReceivesOn, Changed, Advances, UnreadLeaves, ReceiveFault, ShowsLosses, total, work, measure}
use Rattle.worker_pool.proofs.Counting.{live_some, live_set, work_set, work_le, lost_falls}
use Rattle.worker_pool.proofs.Reading.{reads_go, reads_lost}
use Rattle.worker_pool.proofs.Going.{some_same, set_twice, Moves, going_update, AtBusy, busy_of, not_over, only_with, job_table_same, losses_stay, losses_more, known_more, shows_same}

pub both_there : (R : LinkState → LinkState → Type 0) (x y : Option LinkState) (s : LinkState) → x ≡ Some s → Both R x y → (u : LinkState) × (y ≡ Some u) × R s u
both_there R None y s e h = absurd (let f : None ≡ Some s = e in cc)
both_there R (Some x) None s e h = absurd h
both_there R (Some x) (Some u) s e h = (u, refl, subst (λ z. R z u) (some_same x s e) h)

-- the reply of the busy link, as its job and the keeper's see it
pub at_of : (jobs : List Job) (b : Began) (s : State) (i j : ℕ) → Going jobs b s → (a : AtBusy jobs b s i j) → At a.from.known a.now.known a.goes.job j a.receive_reply s.kept a.goes.kept
at_of jobs b s i j g a = record { goes = a.goes.goes; kept = a.goes.kept_is; asked = ap (λ l. slice_get l j) g.keeps ∙ a.goes.job_is }

pub receiving_of : (jobs : List Job) (s : State) (i j : ℕ) (job : Job) (h : Receiving) (slot : Option LinkState) → Runs jobs s → slice_get s.job_table.links i ≡ Some (Busy j) → slice_get jobs j ≡ Some job → slice_get s.receivings i ≡ Some h → slice_get s.slots i ≡ Some slot → IsReceiving slot job j h s.kept
receiving_of jobs s i j job h slot r has is hat sat =
    let a = busy_of jobs r.began s i j r.going has in
    let same_job : a.goes.job ≡ job = some_same a.goes.job job (sym a.goes.job_is ∙ is) in
    let same_receive : a.receive_reply ≡ h = some_same a.receive_reply h (sym a.receive_is ∙ hat) in
    let same_slot : Some a.now ≡ slot = some_same (Some a.now) slot (sym a.slot_is ∙ sat) in
    subst (λ x. IsReceiving x job j h s.kept) same_slot
    (subst (λ x. IsReceiving (Some a.now) x j h s.kept) same_job (subst (λ x. IsReceiving (Some a.now) a.goes.job j x s.kept) same_receive (a.from.known, a.goes.kept, at_of jobs r.began s i j r.going a)))

-- a frame was received of the busy link
pub record Received (v : Verdict) (jobs : List Job) (b : Began) (s : State) (i j : ℕ) (after : List (Option LinkState)) (newer : List Receiving) (held : PartSinkState) : Type 0 where
  pub at : AtBusy jobs b s i j
  pub now : LinkState
  pub next : Receiving
  pub slots : after ≡ set s.slots i (Some now)
  pub receivings : newer ≡ set s.receivings i next
  pub counts : KeepsCounts v at.now now
  pub holds : VerdictHolds v at.from.known now.known at.goes.job j next at.goes.kept s.kept held
  pub received_reply : ReceivedOf v at.receive_reply.received_reply next.received_reply at.now now

pub received_of : (v : Verdict) (jobs : List Job) (b : Began) (s : State) (i j : ℕ) (job : Job) (after : List (Option LinkState)) (newer : List Receiving) (held : PartSinkState) → Going jobs b s → slice_get s.job_table.links i ≡ Some (Busy j) → slice_get jobs j ≡ Some job
    → ReceivedAt (λ h n. Receives v job j h n s.kept held) i s.slots after s.receivings newer → Received v jobs b s i j after newer held
received_of v jobs b s i j job after newer held g has is w =
    let a = busy_of jobs b s i j g has in
    let same_job : job ≡ a.goes.job = some_same job a.goes.job (sym is ∙ a.goes.job_is) in
    let same_receive : w.receive_reply ≡ a.receive_reply = some_same w.receive_reply a.receive_reply (sym w.receive_is ∙ a.receive_is) in
    let same_slot : w.slot ≡ Some a.now = some_same w.slot (Some a.now) (sym w.slot_is ∙ a.slot_is) in
    let by : Both (ReceivesOver v a.goes.job j a.receive_reply w.next s.kept held) w.slot w.then_slot = subst (λ x. Both (ReceivesOver v a.goes.job j x w.next s.kept held) w.slot w.then_slot) same_receive (subst (λ x. Both (ReceivesOver v x j w.receive_reply w.next s.kept held) w.slot w.then_slot) same_job w.by) in
    let u = both_there (ReceivesOver v a.goes.job j a.receive_reply w.next s.kept held) w.slot w.then_slot a.now same_slot by in
    record {
      at = a;
      now = u.0;
      next = w.next;
      slots = w.slots_are ∙ ap (λ x. set s.slots i x) u.1;
      receivings = w.receivings_are;
      counts = u.2.0;
      holds = u.2.1 a.from.known a.goes.kept (at_of jobs b s i j g a);
      received_reply = u.2.2;
    }

-- the count of read jobs stays, and so does the number of those that were sent
reads_stay : (kind : JobKind) (old new : LinkState) (o P : JobPlace) → one_if_sent kind o ≡ one_if_sent kind P → new.reads ≡ old.reads → new.reads ≢ 2 ^ 64 - 1 → (old.reads ≢ 2 ^ 64 - 1) × (new.reads + one_if_sent kind o ≡ old.reads + one_if_sent kind P)
reads_stay kind old new o P q e n = ((λ f. n (e ∙ f)), omega (arith, q, e))

-- more bytes of the reply were received
since_more : (job : Job) (from now new : LinkState) (m n : ℕ) → ReceivedSince job from now m → HasReceived m n now new → ReceivedSince job from new n
since_more job from now new m n s h = record { begun = s.begun; shows = s.shows; faults = s.faults; receivings = received_after s.begun now new s.receivings.bytes 0 m n s.receivings.takes s.receivings.count h }

-- the cause of a loss held
holds_of : (jobs : List Job) (j : ℕ) (job : Job) (cause : LostCause) (from now new : LinkState) (m n : ℕ) → slice_get jobs j ≡ Some job → (s : ReceivedSince job from now m) → ReceivedOf (verdicts.Lost cause) m n now new → IsKnown cause → HoldsOf jobs cause from s.begun new
holds_of jobs j job causes.Device from now new m n is s h t = subst (λ k. Rises k new.faults) s.receivings.takes.faults h
holds_of jobs j job (causes.Ended at) from now new m n is s h t = (record { number = j; job = job; job_is = is; shows = s.shows }, received_after s.begun now new s.receivings.bytes 0 m at s.receivings.takes s.receivings.count h)
holds_of jobs j job (causes.Form at) from now new m n is s h t = (record { number = j; job = job; job_is = is; shows = s.shows }, received_after s.begun now new s.receivings.bytes 0 m at s.receivings.takes s.receivings.count h)
holds_of jobs j job (causes.Sum known found) from now new m n is s h t = t

seen_of : (jobs : List Job) (j : ℕ) (job : Job) (cause : LostCause) (from now new : LinkState) (m n : ℕ) → slice_get jobs j ≡ Some job → ReceivedSince job from now m → ReceivedOf (verdicts.Lost cause) m n now new → IsKnown cause → IsSeen jobs cause from
seen_of jobs j job cause from now new m n is s h t = record { begun = s.begun; last = new; same = shows_same _ from.known s.begun.known s.shows; faults = s.faults; holds = holds_of jobs j job cause from now new m n is s h t }

-- the entry of the busy link
loss_of : (cause : LostCause) (jobs : List Job) (b : Began) (s : State) (i j : ℕ) (after : List (Option LinkState)) (newer : List Receiving) (held : PartSinkState) → Received (verdicts.Lost cause) jobs b s i j after newer held → IsLoss jobs b.links (record { place = i; cause = cause })
loss_of cause jobs b s i j after newer held w = record {
  from = w.at.from;
  is = w.at.from_is;
  unsteady = w.holds.1;
  known = w.holds.2;
  blamed = w.holds.3;
  seen = seen_of jobs j w.at.goes.job cause w.at.from w.at.now w.now w.at.receive_reply.received_reply w.next.received_reply w.at.goes.job_is w.at.goes.since w.received_reply w.holds.2;
}

-- ---- more of the reply is to come

pub going_more : (jobs : List Job) (b : Began) (s t : State) (i j : ℕ) → Going jobs b s → slice_get s.job_table.links i ≡ Some (Busy j) → Received verdicts.More jobs b s i j t.slots t.receivings t.kept → t.job_table ≡ s.job_table → t.lost ≡ s.lost → Going jobs b t
going_more jobs b s t i j g has w job_table lost =
    let a = w.at in
    let mv : Moves s t i j (With i) (Busy j) (Some w.now) w.next w.holds.kept = record {
      job_table = job_table ∙ job_table_same s.job_table i j (With i) (Busy j) has a.goes.place;
      slots = w.slots;
      receivings = w.receivings;
      kept = w.holds.is.kept;
      jobs = w.holds.is.jobs;
    } in
    going_update jobs b s t i j (With i) (With i) (Busy j) (Busy j) (Some w.now) w.next a.goes.kept w.holds.kept g mv has a.goes.place a.goes.kept_is (only_with i) refl
    (subst (λ l. Losses jobs b.links b.lost l (set s.job_table.links i (Busy j))) (sym lost) (losses_stay jobs b.links b.lost s.lost s.job_table.links i (Busy j) (Busy j) g.losses has refl refl)) (λ over. absurd (not_over s.job_table.jobs j (With i) (With i) a.goes.place (λ q. cc) over))
    (reads_go jobs b s i j a.goes.job (With i) (With i) (Busy j) (Busy j) a.now w.now g has refl refl a.slot_is a.goes.job_is a.goes.place (reads_stay a.goes.job.kind a.now w.now (With i) (With i) refl w.counts.2)) (λ job e. tt)
    (λ from e. let f : a.from ≡ from = some_same a.from from (sym a.from_is ∙ e) in
    subst (λ x. LinkGoes jobs b (set s.job_table.jobs j (With i)) (set s.kept.kept j w.holds.kept) x i (Busy j) w.next (Some w.now)) f (record {
      place = get_set_same s.job_table.jobs j (With i) (With i) a.goes.place;
      job = a.goes.job;
      job_is = a.goes.job_is;
      kept = w.holds.kept;
      kept_is = get_set_same s.kept.kept j w.holds.kept a.goes.kept a.goes.kept_is;
      goes = w.holds.goes;
      faults = w.counts.0 ∙ a.goes.faults;
      later = subst (λ n. min a.from.jobs (2 ^ 64 - 1) ≤ n) (sym w.counts.1) a.goes.later;
      sent = subst (Rises a.from.jobs) (sym w.counts.1) a.goes.sent;
      since = since_more a.goes.job a.from a.now w.now a.receive_reply.received_reply w.next.received_reply a.goes.since w.received_reply;
    }))

less_work : (jobs : List Job) (s t : State) (j : ℕ) (job : Job) (k m : JobItems) → slice_get jobs j ≡ Some job → slice_get s.kept.kept j ≡ Some k → t.kept.kept ≡ set s.kept.kept j m → live t.job_table.links ≡ live s.job_table.links → job_left job m < job_left job k → measure jobs t < measure jobs s
less_work jobs s t j job k m e f h l lt =
    let w : work jobs t.kept.kept + job_left job k ≡ work jobs s.kept.kept + job_left job m = ap (λ x. work jobs x + job_left job k) h ∙ work_set jobs s.kept.kept j job k m e f in
    let less : work jobs t.kept.kept < work jobs s.kept.kept = omega (arith, w, lt) in
    subst (λ x. x * suc (total jobs) + work jobs t.kept.kept < live s.job_table.links * suc (total jobs) + work jobs s.kept.kept) (sym l) (omega (arith, less))

pub more_advances : (jobs : List Job) (b : Began) (s t : State) (i j : ℕ) → Received verdicts.More jobs b s i j t.slots t.receivings t.kept → t.job_table ≡ s.job_table → Advances jobs s t
more_advances jobs b s t i j w job_table = record {
  falls = less_work jobs s t j w.at.goes.job w.at.goes.kept w.holds.kept w.at.goes.job_is w.at.goes.kept_is w.holds.is.kept (ap (λ (d : Dispatch). live d.links) job_table) w.holds.falls;
  faults = w.holds.is.faults;
  links = ap (λ (d : Dispatch). length d.links) job_table;
}

-- ---- the reply has ended

pub going_ended : (jobs : List Job) (b : Began) (s t : State) (i j : ℕ) → b.all ≡ true → Going jobs b s → slice_get s.job_table.links i ≡ Some (Busy j) → Received verdicts.Ended jobs b s i j t.slots t.receivings t.kept → t.job_table ≡ after_end s.job_table i j → t.lost ≡ s.lost → Going jobs b t
going_ended jobs b s t i j all g has w job_table lost =
    let a = w.at in
    let mv : Moves s t i j Ended Idle (Some w.now) w.next w.holds.kept = record { job_table = job_table; slots = w.slots; receivings = w.receivings; kept = w.holds.is.kept; jobs = w.holds.is.jobs } in
    going_update jobs b s t i j Ended (With i) Idle (Busy j) (Some w.now) w.next a.goes.kept w.holds.kept g mv has a.goes.place a.goes.kept_is (only_with i) refl
    (subst (λ l. Losses jobs b.links b.lost l (set s.job_table.links i Idle)) (sym lost) (losses_stay jobs b.links b.lost s.lost s.job_table.links i (Busy j) Idle g.losses has refl refl))
    (λ over. live_some (set s.job_table.links i Idle) i Idle (get_set_same s.job_table.links i Idle (Busy j) has) refl)
    (reads_go jobs b s i j a.goes.job (With i) Ended (Busy j) Idle a.now w.now g has refl refl a.slot_is a.goes.job_is a.goes.place (reads_stay a.goes.job.kind a.now w.now (With i) Ended refl w.counts.2))
    (λ job e. let same : a.goes.job ≡ job = some_same a.goes.job job (sym a.goes.job_is ∙ e) in
    (all, record { link = i; from = a.from; is = a.from_is; items = subst (λ (x : Job). AllEnd a.from.known x.kind x.items w.holds.kept.done) same w.holds.items }))
    (λ from e. let f : a.from ≡ from = some_same a.from from (sym a.from_is ∙ e) in
    subst (λ x. LinkGoes jobs b (set s.job_table.jobs j Ended) (set s.kept.kept j w.holds.kept) x i Idle w.next (Some w.now)) f (record {
      drained = w.holds.drained;
      faults = w.counts.0 ∙ a.goes.faults;
      later = subst (λ n. min a.from.jobs (2 ^ 64 - 1) ≤ n) (sym w.counts.1) a.goes.later;
      sent = λ x y. subst (Rises a.from.jobs) (sym w.counts.1) a.goes.sent;
    }))

pub ended_advances : (jobs : List Job) (b : Began) (s t : State) (i j : ℕ) → slice_get s.job_table.links i ≡ Some (Busy j) → Received verdicts.Ended jobs b s i j t.slots t.receivings t.kept → t.job_table ≡ after_end s.job_table i j → Advances jobs s t
ended_advances jobs b s t i j has w job_table = record {
  falls = less_work jobs s t j w.at.goes.job w.at.goes.kept w.holds.kept w.at.goes.job_is w.at.goes.kept_is w.holds.is.kept (ap (λ (d : Dispatch). live d.links) job_table ∙ (let q = live_set s.job_table.links i (Busy j) Idle has in omega (arith, q))) w.holds.falls;
  faults = w.holds.is.faults;
  links = ap (λ (d : Dispatch). length d.links) job_table ∙ length-set s.job_table.links i Idle;
}

-- ---- the link is lost

pub going_lost : (jobs : List Job) (b : Began) (s t : State) (i j : ℕ) (cause : LostCause) (next : Receiving) → Going jobs b s → slice_get s.job_table.links i ≡ Some (Busy j) → t.job_table ≡ after_drop s.job_table i j → t.slots ≡ set s.slots i None → t.receivings ≡ set s.receivings i next → Changed Clears j s.kept t.kept
    → t.lost ≡ s.lost ++ (record { place = i; cause = cause }) ∷ [] → IsLoss jobs b.links (record { place = i; cause = cause }) → Going jobs b t
going_lost jobs b s t i j cause next g has job_table slots receivings kept lost loss =
    let a = busy_of jobs b s i j g has in
    let m = kept.2.after in
    let mv : Moves s t i j Waiting Lost None next m = record { job_table = job_table; slots = slots; receivings = receivings; kept = kept.2.is; jobs = kept.1 } in
    going_update jobs b s t i j Waiting (With i) Lost (Busy j) None next a.goes.kept m g mv has a.goes.place a.goes.kept_is (only_with i) refl
    (losses_more jobs b.links b.lost s.lost t.lost s.job_table.links i (Busy j) (record { place = i; cause = cause }) g.losses has refl lost refl loss)
    (λ over. absurd (not_over s.job_table.jobs j Waiting (With i) a.goes.place (λ q. cc) over)) (reads_lost jobs b (set s.job_table.jobs j Waiting) s.job_table.links (set s.slots i None) i (Busy j) has refl)
    (λ job e. kept.2.by a.goes.kept a.goes.kept_is) (λ from e. tt)

pub lost_advances : (jobs : List Job) (s t : State) (i j : ℕ) → slice_get s.job_table.links i ≡ Some (Busy j) → t.job_table ≡ after_drop s.job_table i j → t.kept.faults ≡ s.kept.faults → Advances jobs s t
lost_advances jobs s t i j has job_table same =
    let l : suc (live (set s.job_table.links i Lost)) ≡ live s.job_table.links = (let q = live_set s.job_table.links i (Busy j) Lost has in omega (arith, q)) in
    let links : t.job_table.links ≡ set s.job_table.links i Lost = ap (λ (d : Dispatch). d.links) job_table in
    record {
      falls = subst (λ x. live x * suc (total jobs) + work jobs t.kept.kept < measure jobs s) (sym links) (lost_falls (live (set s.job_table.links i Lost)) (live s.job_table.links) (total jobs) (work jobs s.kept.kept) (work jobs t.kept.kept) l (work_le jobs t.kept.kept));
      faults = same;
      links = ap length links ∙ length-set s.job_table.links i Lost;
    }

-- ---- what the functions' clauses say together

pub job_at : {A X : Type 0} (f : A → X) (xs : List A) (j : ℕ) (r : A) → j < length xs → r ≡ slice_index_or xs j r → slice_get (map f xs) j ≡ Some (f r)
job_at f [] j r h e = absurd (omega arith)
job_at f (x ∷ xs) zero r h e = ap (λ y. Some (f y)) (sym e)
job_at f (x ∷ xs) (suc j) r h e = job_at f xs j r (omega arith) e

pub fits_at : {A : Type 0} (f : A → Job) (xs : List A) (j : ℕ) (r : A) → All (λ x. FitsJob (f x)) xs → j < length xs → r ≡ slice_index_or xs j r → FitsJob (f r)
fits_at f xs j r h lt e = subst (λ x. FitsJob (f x)) (sym e) (h j r lt)

-- a busy link's places are in range
pub record BusyWithin (jobs : List Job) (s : State) (i j : ℕ) : Type 0 where
  pub slot : i < length s.slots
  pub receive_reply : i < length s.receivings
  pub job : j < length jobs
  pub kept : j < length s.kept.kept

pub busy_within : (jobs : List Job) (s : State) (i j : ℕ) → Runs jobs s → slice_get s.job_table.links i ≡ Some (Busy j) → BusyWithin jobs s i j
busy_within jobs s i j r has =
    let a = busy_of jobs r.began s i j r.going has in
    record {
      slot = slice_get_within s.slots i (Some a.now) a.slot_is;
      receive_reply = slice_get_within s.receivings i a.receive_reply a.receive_is;
      job = slice_get_within jobs j a.goes.job a.goes.job_is;
      kept = slice_get_within s.kept.kept j a.goes.kept a.goes.kept_is;
    }

pub received_with : (v w : Verdict) (jobs : List Job) (b : Began) (s : State) (i j : ℕ) (job : Job) (after : List (Option LinkState)) (newer : List Receiving) (held : PartSinkState) → v ≡ w → Going jobs b s → slice_get s.job_table.links i ≡ Some (Busy j) → slice_get jobs j ≡ Some job
    → ReceivedAt (λ h n. Receives v job j h n s.kept held) i s.slots after s.receivings newer → Received w jobs b s i j after newer held
received_with v w jobs b s i j job after newer held q g has is h = subst (λ x. Received x jobs b s i j after newer held) q (received_of v jobs b s i j job after newer held g has is h)

-- a frame of a link that is to be lost leaves the keeper unchanged
pub lost_held : (v : Verdict) (cause : LostCause) (jobs : List Job) (s : State) (i j : ℕ) (job : Job) (after : List (Option LinkState)) (newer : List Receiving) (held : PartSinkState) → v ≡ verdicts.Lost cause → Runs jobs s → slice_get s.job_table.links i ≡ Some (Busy j) → slice_get jobs j ≡ Some job
    → ReceivedAt (λ h n. Receives v job j h n s.kept held) i s.slots after s.receivings newer → held ≡ s.kept
lost_held v cause jobs s i j job after newer held q r has is h = (received_with v (verdicts.Lost cause) jobs r.began s i j job after newer held q r.going has is h).holds.0

pub lost_goes : (r : Result (Unit {0}) DispatchFault) (v : Verdict) (cause : LostCause) (jobs : List Job) (s t : State) (i j : ℕ) (job : Job) (after : List (Option LinkState)) (newer : List Receiving) (held : PartSinkState)
    → v ≡ verdicts.Lost cause → slice_get s.job_table.links i ≡ Some (Busy j) → slice_get jobs j ≡ Some job → ReceivedAt (λ h n. Receives v job j h n s.kept held) i s.slots after s.receivings newer
    → OnOk r (t.job_table ≡ after_drop s.job_table i j) → OnOk r (t.slots ≡ set after i None) → t.receivings ≡ newer → OnOk r (Changed Clears j held t.kept) → OnOk r (t.lost ≡ s.lost ++ (record { place = i; cause = cause }) ∷ [])
    → OnOk r (ReceivesOn jobs s t)
lost_goes (Err e) v cause jobs s t i j job after newer held q has is h job_table slots receivings kept lost = tt
lost_goes (Ok u) v cause jobs s t i j job after newer held q has is h job_table slots receivings kept lost = λ b all g.
    let w = received_with v (verdicts.Lost cause) jobs b s i j job after newer held q g has is h in
    going_lost jobs b s t i j cause w.next g has job_table
    (slots ∙ ap (λ l. set l i None) w.slots ∙ set_twice s.slots i (Some w.now) None) (receivings ∙ w.receivings) (subst (λ k. Changed Clears j k t.kept) w.holds.0 kept) lost (loss_of cause jobs b s i j after newer held w)

pub lost_known : (r : Result (Unit {0}) DispatchFault) (v : Verdict) (cause : LostCause) (jobs : List Job) (s : State) (i j : ℕ) (job : Job) (after : List (Option LinkState)) (newer : List Receiving) (held : PartSinkState) (entries : List Entry)
    → v ≡ verdicts.Lost cause → slice_get s.job_table.links i ≡ Some (Busy j) → slice_get jobs j ≡ Some job → ReceivedAt (λ h n. Receives v job j h n s.kept held) i s.slots after s.receivings newer
    → OnErr r ((entries ≡ s.lost) ⊎ (entries ≡ s.lost ++ (record { place = i; cause = cause }) ∷ [])) → OnErr r (ShowsLosses jobs s entries)
lost_known (Ok u) v cause jobs s i j job after newer held entries q has is h known = tt
lost_known (Err e) v cause jobs s i j job after newer held entries q has is h known = known_more jobs s entries (record { place = i; cause = cause }) known (λ b g. loss_of cause jobs b s i j after newer held (received_with v (verdicts.Lost cause) jobs b s i j job after newer held q g has is h))

pub lost_adv : (r : Result (Unit {0}) DispatchFault) (jobs : List Job) (s t : State) (i j : ℕ) (held : PartSinkState) → held ≡ s.kept → slice_get s.job_table.links i ≡ Some (Busy j) → OnOk r (t.job_table ≡ after_drop s.job_table i j) → OnOk r (Changed Clears j held t.kept) → OnOk r (Advances jobs s t)
lost_adv (Err e) jobs s t i j held same has job_table kept = tt
lost_adv (Ok u) jobs s t i j held same has job_table kept = lost_advances jobs s t i j has job_table (kept.0 ∙ ap (λ (k : PartSinkState). k.faults) same)

quiet_one : (e : DispatchFault) (jobs : List Job) (s t : State) → IsQuiet e s.kept.faults t.kept.faults → ReceiveFault jobs e s t
quiet_one faults.WorkersLost jobs s t h = absurd h
quiet_one (faults.Unread a c) jobs s t h = absurd h
quiet_one faults.PartSink jobs s t h = h
quiet_one faults.NoMemory jobs s t h = tt

pub lost_fault : (r : Result (Unit {0}) DispatchFault) (jobs : List Job) (s t : State) (held : PartSinkState) → held ≡ s.kept → IfErr r (λ e. IsQuiet e held.faults t.kept.faults) → IfErr r (λ e. ReceiveFault jobs e s t)
lost_fault (Ok u) jobs s t held same h = tt
lost_fault (Err e) jobs s t held same h = quiet_one e jobs s t (subst (λ (k : PartSinkState). IsQuiet e k.faults t.kept.faults) same h)

-- a reply failed
record Failed (e : ReplyFault) (jobs : List Job) (b : Began) (s : State) (i j : ℕ) (after : List (Option LinkState)) (held : PartSinkState) : Type 0 where
  at : AtBusy jobs b s i j
  now : LinkState
  slots : after ≡ set s.slots i (Some now)
  given : IsUnread e → last_five now.given ≡ spell Unread
  holds : FaultHolds e at.from.known at.goes.job at.receive_reply.item s.kept held

failed_of : (e : ReplyFault) (jobs : List Job) (b : Began) (s : State) (i j : ℕ) (job : Job) (after : List (Option LinkState)) (newer : List Receiving) (held : PartSinkState) → Going jobs b s → slice_get s.job_table.links i ≡ Some (Busy j) → slice_get jobs j ≡ Some job
    → ReceivedAt (λ h n. ReceiveFails e job j h s.kept held) i s.slots after s.receivings newer → Failed e jobs b s i j after held
failed_of e jobs b s i j job after newer held g has is w =
    let a = busy_of jobs b s i j g has in
    let same_job : job ≡ a.goes.job = some_same job a.goes.job (sym is ∙ a.goes.job_is) in
    let same_receive : w.receive_reply ≡ a.receive_reply = some_same w.receive_reply a.receive_reply (sym w.receive_is ∙ a.receive_is) in
    let same_slot : w.slot ≡ Some a.now = some_same w.slot (Some a.now) (sym w.slot_is ∙ a.slot_is) in
    let by : Both (FailsOver e a.goes.job j a.receive_reply s.kept held) w.slot w.then_slot = subst (λ x. Both (FailsOver e a.goes.job j x s.kept held) w.slot w.then_slot) same_receive (subst (λ x. Both (FailsOver e x j w.receive_reply s.kept held) w.slot w.then_slot) same_job w.by) in
    let u = both_there (FailsOver e a.goes.job j a.receive_reply s.kept held) w.slot w.then_slot a.now same_slot by in
    record {
      at = a;
      now = u.0;
      slots = w.slots_are ∙ ap (λ x. set s.slots i x) u.1;
      given = u.2.0;
      holds = u.2.1 a.from.known a.goes.kept (at_of jobs b s i j g a);
    }

pub unread_leaves : (e : ReplyFault) (item : ℕ) (jobs : List Job) (s : State) (i j : ℕ) (job : Job) (after only : List (Option LinkState)) (newer : List Receiving) (held : PartSinkState) → e ≡ takes.Unread item → slice_get s.job_table.links i ≡ Some (Busy j) → slice_get jobs j ≡ Some job
    → ReceivedAt (λ h n. ReceiveFails e job j h s.kept held) i s.slots after s.receivings newer → ((slot : Option LinkState) → slice_get after i ≡ Some slot → only ≡ slot ∷ [])
    → (b : Began) → Going jobs b s → UnreadLeaves jobs b j item only
unread_leaves e item jobs s i j job after only newer held q has is h left b g =
    let f = subst (λ x. Failed x jobs b s i j after held) q (failed_of e jobs b s i j job after newer held g has is h) in
    record {
      now = f.now;
      is = left (Some f.now) (ap (λ l. slice_get l i) f.slots ∙ get_set_same s.slots i (Some f.now) (Some f.at.now) f.at.slot_is);
      given = f.given tt;
      from = f.at.from;
      link = i;
      from_is = f.at.from_is;
      job = f.at.goes.job;
      job_is = f.at.goes.job_is;
      within = (
          let g = f.at.goes.goes in
          let here = f.holds.1 in
          let index = g.index in
          let count = ap length g.split ∙ length-append g.past (g.next ∷ g.left) in
          omega (arith, here, index, count)
          );
      unread = f.holds.2;
    }

pub keep_rises : (e : ReplyFault) (jobs : List Job) (s : State) (i j : ℕ) (job : Job) (after : List (Option LinkState)) (newer : List Receiving) (held : PartSinkState) → e ≡ takes.PartSink → Runs jobs s → slice_get s.job_table.links i ≡ Some (Busy j) → slice_get jobs j ≡ Some job
    → ReceivedAt (λ h n. ReceiveFails e job j h s.kept held) i s.slots after s.receivings newer → Rises s.kept.faults held.faults
keep_rises e jobs s i j job after newer held q r has is h = (subst (λ x. Failed x jobs r.began s i j after held) q (failed_of e jobs r.began s i j job after newer held r.going has is h)).holds

pub slots_lost : {A : Type 0} (f : A → LinkState) (xs ys : List (Option A)) (i : ℕ) → ys ≡ set xs i None → map (option_map f) ys ≡ set (map (option_map f) xs) i None
slots_lost f xs ys i e = ap (map (option_map f)) e ∙ map-set (option_map f) xs i None

pub on_ok : (r : Result (Unit {0}) DispatchFault) (P Q : Type 0) → OnOk r P → (P → Q) → OnOk r Q
on_ok (Ok u) P Q h f = f h
on_ok (Err e) P Q h f = tt

-- The beginning and the end of a whole run.
use Rattle.std.proofs.Common.{ℕ, zero, suc, ◌≡◌, ◌<◌, ◌≤◌, List, [], ◌∷◌, ◌++◌, true, false, Option, Some, None, Result, Ok, Err, length, map, replicate, refl, sym, ap, subst, arith, ◌∙◌, append_assoc, slice_get}
use Rattle.std.specs.Prelude.{IfSome, IsSomeAnd, IfErr, OnOk, OnErr, option_map}
use Rattle.std.proofs.lemmas.List.{length-map}
use Rattle.std.proofs.lemmas.Option.{slice_get_within}
use Rattle.base_devices.specs.Cause.{Rises}
use Rattle.base_devices.specs.Links.{LinkState, Modelled}
use Rattle.worker_protocol.specs.Frames.{Job}
use Rattle.worker_protocol.specs.PartSinkState.{JobItems, PartSinkState, IsFresh}
use Rattle.worker_pool.specs.Dispatch.{Dispatch, IsIdle, NoneWaits, AllEnded, start}
use Rattle.worker_pool.specs.declared.jobs.JobPlace.{JobPlace}
use Rattle.worker_pool.specs.declared.jobs.JobPlace.TheVariants.{Waiting, With, Ended}
use Rattle.worker_pool.specs.declared.jobs.LinkPlace.{LinkPlace}
use Rattle.worker_pool.specs.declared.jobs.LinkPlace.TheVariants.{Idle, Busy, Lost}
use Rattle.base_devices.specs.Content.{Content}
use Rattle.worker_pool.specs.Reads.{Reads}
use Rattle.worker_pool.specs.Going.{IsDrained}
use Rattle.worker_pool.specs.declared.replies.receiving.Receiving.{Receiving}
use Rattle.worker_pool.specs.declared.dispatch.fault.Lost.{Lost as Entry}
use Rattle.worker_pool.specs.declared.dispatch.fault.DispatchFault.{DispatchFault}
use Rattle.worker_pool.specs.declared.dispatch.fault.DispatchFault.TheVariants as faults
use Rattle.worker_pool.specs.DispatchFaults.{IsQuiet}
use Rattle.worker_pool.specs.Run.{State, Began, EndedBy, Rests, LinkGoes, JobGoes, live, withs, busies, Going, GoesOn, ReceivesOn, NoneBusy, RunFault, UnreadLeaves, somes, Starts, AllDone, Left, JobsFault, IsReady, state, fresh, begun, SlotsLeave, AddsLosses, ShowsLosses, ShowsLossesOn}
use Rattle.worker_pool.specs.Counts.{reads_of, sent_reads}
use Rattle.worker_pool.proofs.Counting.{is_with}
use Rattle.worker_pool.proofs.Reading.{sent_none}
use Rattle.worker_pool.proofs.Going.{some_of, some_same, is_some_at, get_some}

-- ---- slots

pub somes_push : {A : Type 0} (xs : List (Option A)) (x : A) → somes (xs ++ Some x ∷ []) ≡ somes xs ++ x ∷ []
somes_push [] x = refl
somes_push (None ∷ xs) x = somes_push xs x
somes_push (Some y ∷ xs) x = ap (λ l. y ∷ l) (somes_push xs x)

pub somes_none : {A : Type 0} (xs : List (Option A)) → somes (xs ++ None ∷ []) ≡ somes xs
somes_none [] = refl
somes_none (None ∷ xs) = somes_none xs
somes_none (Some y ∷ xs) = ap (λ l. y ∷ l) (somes_none xs)

pub slot_given : {A : Type 0} (first before after : List A) (slots : List (Option A)) (slot : Option A) (x : A) → slot ≡ Some x → before ≡ first ++ somes slots → after ≡ before ++ x ∷ [] → after ≡ first ++ somes (slots ++ slot ∷ [])
slot_given first before after slots slot x e h n =
    n ∙ ap (λ l. l ++ x ∷ []) h ∙ append_assoc first (somes slots) (x ∷ []) ∙ ap (λ l. first ++ l) (sym (somes_push slots x)) ∙ ap (λ o. first ++ somes (slots ++ o ∷ [])) (sym e)

pub slot_empty : {A : Type 0} (first before : List A) (slots : List (Option A)) (slot : Option A) → ((x : A) → slot ≡ Some x → ⊥) → before ≡ first ++ somes slots → before ≡ first ++ somes (slots ++ slot ∷ [])
slot_empty first before slots None n h = h ∙ ap (λ l. first ++ l) (sym (somes_none slots))
slot_empty first before slots (Some x) n h = absurd (n x refl)

pub somes_map : {A X : Type 0} (f : A → X) (xs : List (Option A)) → map f (somes xs) ≡ somes (map (option_map f) xs)
somes_map f [] = refl
somes_map f (None ∷ xs) = somes_map f xs
somes_map f (Some x ∷ xs) = ap (λ l. f x ∷ l) (somes_map f xs)

somes_all : {A : Type 0} (xs : List A) → somes (map Some xs) ≡ xs
somes_all [] = refl
somes_all (x ∷ xs) = ap (λ l. x ∷ l) (somes_all xs)

pub map_some : {A X : Type 0} (f : A → X) (xs : List A) → map (option_map f) (map Some xs) ≡ map Some (map f xs)
map_some f [] = refl
map_some f (x ∷ xs) = ap (λ l. Some (f x) ∷ l) (map_some f xs)

-- ---- before the first event

length-replicated : {X : Type 0} (n : ℕ) (x : X) → length (replicate n x) ≡ n
length-replicated zero x = refl
length-replicated (suc n) x = ap suc (length-replicated n x)

get_replicate : {X : Type 0} (n k : ℕ) (x y : X) → slice_get (replicate n x) k ≡ Some y → y ≡ x
get_replicate zero k x y e = absurd (let f : None ≡ Some y = e in cc)
get_replicate (suc n) zero x y e = sym (some_same x y e)
get_replicate (suc n) (suc k) x y e = get_replicate n k x y e

live_all : (n : ℕ) → live (replicate n Idle) ≡ n
live_all zero = refl
live_all (suc n) = ap suc (live_all n)

withs_none : (n : ℕ) → withs (replicate n Waiting) ≡ 0
withs_none zero = refl
withs_none (suc n) = withs_none n

busies_none : (n : ℕ) → busies (replicate n Idle) ≡ 0
busies_none zero = refl
busies_none (suc n) = busies_none n

get_map_some : {A : Type 0} (xs : List A) (k : ℕ) (o : Option A) → slice_get (map Some xs) k ≡ Some o → (x : A) × (slice_get xs k ≡ Some x) × (o ≡ Some x)
get_map_some [] k o e = absurd (let f : None ≡ Some o = e in cc)
get_map_some (x ∷ xs) zero o e = (x, refl, sym (some_same (Some x) o e))
get_map_some (x ∷ xs) (suc k) o e = get_map_some xs k o e

pub append_none : {X : Type 0} (xs : List X) → xs ++ [] ≡ xs
append_none [] = refl
append_none (x ∷ xs) = ap (λ l. x ∷ l) (append_none xs)

idle_not_lost : (n l : ℕ) → slice_get (replicate n Idle) l ≡ Some Lost → ⊥
idle_not_lost n l e = absurd (let f : Lost ≡ Idle = get_replicate n l Idle Lost e in cc)

rests_first : (links : List LinkState) (lost : List Entry) (count i : ℕ) (from : LinkState) (jobs : List Job) (places : List JobPlace) (ks : List JobItems) (h : Receiving) (p : LinkPlace) (slot : Option LinkState) → p ≡ Idle → slot ≡ Some from → length jobs ≡ count → Rests (fresh links lost) count from from → LinkGoes jobs (fresh links lost) places ks from i p h slot
rests_first links lost count i from jobs places ks h p slot e f n r =
    subst (λ q. LinkGoes jobs (fresh links lost) places ks from i q h slot) (sym e) (subst (λ o. LinkGoes jobs (fresh links lost) places ks from i Idle h o) (sym f) (subst (λ m. Rests (fresh links lost) m from from) (sym n) r))

pub going_start : (jobs : List Job) (links : List LinkState) (s : State) → Starts jobs links s → Going jobs (fresh links s.lost) s
going_start jobs links s a =
    let places : s.job_table.jobs ≡ replicate (length jobs) Waiting = ap (λ (d : Dispatch). d.jobs) a.job_table in
    let ls : s.job_table.links ≡ replicate (length links) Idle = ap (λ (d : Dispatch). d.links) a.job_table in
    let slots : length s.slots ≡ length links = ap length a.slots ∙ length-map links Some in
    record {
      job_count = ap length places ∙ length-replicated (length jobs) Waiting;
      link_count = ap length ls ∙ length-replicated (length links) Idle ∙ sym slots;
      receive_count = a.receivings ∙ sym slots;
      start_count = sym slots;
      keeps = a.keeps;
      even = ap withs places ∙ withs_none (length jobs) ∙ sym (ap busies ls ∙ busies_none (length links));
      losses = record {
        entries = [];
        is = sym (append_none s.lost);
        each = tt;
        has = λ l e. absurd (idle_not_lost (length links) l (ap (λ x. slice_get x l) (sym ls) ∙ e));
        count = (let n : live s.job_table.links ≡ length s.job_table.links = ap live ls ∙ live_all (length links) ∙ sym (ap length ls ∙ length-replicated (length links) Idle) in omega (arith, n));
      };
      reads = λ all none.
          let slotted : somes s.slots ≡ links = ap somes a.slots ∙ somes_all links in
          let waits : sent_reads jobs s.job_table.jobs ≡ 0 = ap (sent_reads jobs) places ∙ sent_none jobs (length jobs) in
          omega (arith, ap reads_of slotted, waits);
      some = λ over many. (let n : live s.job_table.links ≡ length links = ap live ls ∙ live_all (length links) in omega (arith, n, many));
      each_job = λ j job p is at.
          let w : p ≡ Waiting = get_replicate (length jobs) j Waiting p (ap (λ x. slice_get x j) (sym places) ∙ at) in
          subst (λ z. IsSomeAnd (slice_get s.kept.kept j) (JobGoes (fresh links s.lost) job z)) (sym w) (a.fresh j (slice_get_within jobs j job is));
      each_link = λ i p h slot at hat sat.
          let w : p ≡ Idle = get_replicate (length links) i Idle p (ap (λ x. slice_get x i) (sym ls) ∙ at) in
          let x = get_map_some links i slot (ap (λ l. slice_get l i) (sym a.slots) ∙ sat) in
          is_some_at (λ f. LinkGoes jobs (fresh links s.lost) s.job_table.jobs s.kept.kept f i p h slot) (slice_get links i) x.0 x.1
          (rests_first links s.lost (length jobs) i x.0 jobs s.job_table.jobs s.kept.kept h p slot w x.2 refl (record { drained = a.ready i x.0 x.1; faults = refl; later = omega arith; sent = λ e. absurd (let f : false ≡ true = e in cc) }));
    }

-- ---- each idle link was given a job, or none waits

busies_le : (ls : List LinkPlace) → busies ls ≤ length ls
busies_le [] = omega arith
busies_le (Lost ∷ ls) = omega (arith, busies_le ls)
busies_le (Idle ∷ ls) = omega (arith, busies_le ls)
busies_le (Busy j ∷ ls) = omega (arith, busies_le ls)

busies_less : (ls : List LinkPlace) (k : ℕ) → slice_get ls k ≡ Some Idle → suc (busies ls) ≤ length ls
busies_less [] k e = absurd (let f : None ≡ Some Idle = e in cc)
busies_less (Lost ∷ ls) zero e = absurd (let f : Lost ≡ Idle = some_same Lost Idle e in cc)
busies_less (Idle ∷ ls) zero e = omega (arith, busies_le ls)
busies_less (Busy j ∷ ls) zero e = absurd (let f : Busy j ≡ Idle = some_same (Busy j) Idle e in cc)
busies_less (Lost ∷ ls) (suc k) e = omega (arith, busies_less ls k e)
busies_less (Idle ∷ ls) (suc k) e = omega (arith, busies_less ls k e)
busies_less (Busy j ∷ ls) (suc k) e = omega (arith, busies_less ls k e)

withs_all : (ps : List JobPlace) → ((k : ℕ) (p : JobPlace) → slice_get ps k ≡ Some p → is_with p ≡ 1) → withs ps ≡ length ps
withs_all [] h = refl
withs_all (Waiting ∷ ps) h = absurd (let f = h 0 Waiting refl in cc)
withs_all (With l ∷ ps) h = ap suc (withs_all ps (λ k p e. h (suc k) p e))
withs_all (Ended ∷ ps) h = absurd (let f = h 0 Ended refl in cc)

none_ended : (links : List LinkState) (lost : List Entry) (job : Job) (o : Option JobItems) → IsSomeAnd o (JobGoes (fresh links lost) job Ended) → ⊥
none_ended links lost job None h = h
none_ended links lost job (Some k) h = absurd (let f : false ≡ true = h.0 in cc)

place_with : (jobs : List Job) (links : List LinkState) (lost : List Entry) (s : State) (k : ℕ) (p : JobPlace) → Going jobs (fresh links lost) s → NoneWaits s.job_table → slice_get s.job_table.jobs k ≡ Some p → is_with p ≡ 1
place_with jobs links lost s k Waiting g none e = absurd (none k e)
place_with jobs links lost s k (With l) g none e = refl
place_with jobs links lost s k Ended g none e =
    let job = get_some jobs k (let w = slice_get_within s.job_table.jobs k Ended e in omega (arith, w, g.job_count)) in
    absurd (none_ended links lost job.0 (slice_get s.kept.kept k) (g.each_job k job.0 Ended job.1 e))

-- where a link is idle though no job waits, there are fewer jobs than links
few_jobs : (jobs : List Job) (links : List LinkState) (lost : List Entry) (s : State) (k : ℕ) → Going jobs (fresh links lost) s → NoneWaits s.job_table → slice_get s.job_table.links k ≡ Some Idle → length links ≤ length jobs → ⊥
few_jobs jobs links lost s k g none idle le =
    let w = withs_all s.job_table.jobs (λ a p e. place_with jobs links lost s a p g none e) in
    let l = busies_less s.job_table.links k idle in
    omega (arith, w, l, g.even, g.job_count, g.link_count, g.start_count, le)

job_begun : (links : List LinkState) (lost : List Entry) (job : Job) (p : JobPlace) (k : JobItems) → JobGoes (fresh links lost) job p k → JobGoes (begun links lost) job p k
job_begun links lost job Waiting k h = h
job_begun links lost job (With l) k h = h
job_begun links lost job Ended k h = (refl, h.1)

jobs_begun : (links : List LinkState) (lost : List Entry) (job : Job) (p : JobPlace) (o : Option JobItems) → IsSomeAnd o (JobGoes (fresh links lost) job p) → IsSomeAnd o (JobGoes (begun links lost) job p)
jobs_begun links lost job p None h = h
jobs_begun links lost job p (Some k) h = job_begun links lost job p k h

link_begun : (jobs : List Job) (links : List LinkState) (lost : List Entry) (places : List JobPlace) (ks : List JobItems) (from : LinkState) (i : ℕ) (p : LinkPlace) (h : Receiving) (slot : Option LinkState) → (p ≡ Idle → length links ≤ length jobs → ⊥)
    → LinkGoes jobs (fresh links lost) places ks from i p h slot → LinkGoes jobs (begun links lost) places ks from i p h slot
link_begun jobs links lost places ks from i Lost h None few g = g
link_begun jobs links lost places ks from i Lost h (Some now) few g = g
link_begun jobs links lost places ks from i Idle h None few g = g
link_begun jobs links lost places ks from i Idle h (Some now) few g = record { drained = g.drained; faults = g.faults; later = g.later; sent = λ e le. absurd (few refl le) }
link_begun jobs links lost places ks from i (Busy j) h None few g = g
link_begun jobs links lost places ks from i (Busy j) h (Some now) few g = g

links_begun : (jobs : List Job) (links : List LinkState) (lost : List Entry) (places : List JobPlace) (ks : List JobItems) (i : ℕ) (p : LinkPlace) (h : Receiving) (slot : Option LinkState) (o : Option LinkState) → (p ≡ Idle → length links ≤ length jobs → ⊥)
    → IsSomeAnd o (λ f. LinkGoes jobs (fresh links lost) places ks f i p h slot) → IsSomeAnd o (λ f. LinkGoes jobs (begun links lost) places ks f i p h slot)
links_begun jobs links lost places ks i p h slot None few g = g
links_begun jobs links lost places ks i p h slot (Some from) few g = link_begun jobs links lost places ks from i p h slot few g

pub all_given : (jobs : List Job) (links : List LinkState) (lost : List Entry) (s : State) → ((k : ℕ) → IsIdle s.job_table k → NoneWaits s.job_table) → Going jobs (fresh links lost) s → Going jobs (begun links lost) s
all_given jobs links lost s idle g = record {
  job_count = g.job_count;
  link_count = g.link_count;
  receive_count = g.receive_count;
  start_count = g.start_count;
  keeps = g.keeps;
  even = g.even;
  losses = g.losses;
  some = g.some;
  reads = g.reads;
  each_job = λ j job p is at. jobs_begun links lost job p (slice_get s.kept.kept j) (g.each_job j job p is at);
  each_link = λ i p h slot at hat sat. links_begun jobs links lost s.job_table.jobs s.kept.kept i p h slot (slice_get links i)
      (λ e le. few_jobs jobs links lost s i g (idle i (at ∙ ap Some e)) (at ∙ ap Some e) le) (g.each_link i p h slot at hat sat);
}

-- ---- at the end

pub all_done : (jobs : List Job) (b : Began) (s : State) → Going jobs b s → AllEnded s.job_table.jobs → AllDone jobs b.links s.kept.kept
all_done jobs b s g over = λ j job e.
    let k = some_of (JobGoes b job Ended) (slice_get s.kept.kept j) (g.each_job j job Ended e (over j (let w = slice_get_within jobs j job e in omega (arith, w, g.job_count)))) in
    is_some_at (EndedBy b.links job) (slice_get s.kept.kept j) k.0 k.1 k.2.1

slot_left : (jobs : List Job) (b : Began) (job_table : Dispatch) (ks : List JobItems) (from : LinkState) (i : ℕ) (p : LinkPlace) (h : Receiving) (s : LinkState) → slice_get job_table.links i ≡ Some p → NoneBusy job_table → LinkGoes jobs b job_table.jobs ks from i p h (Some s) → Rests b (length jobs) from s
slot_left jobs b job_table ks from i Lost h s at none g = absurd g
slot_left jobs b job_table ks from i Idle h s at none g = g
slot_left jobs b job_table ks from i (Busy j) h s at none g = absurd (none i j at)

slot_gone : (jobs : List Job) (b : Began) (job_table : Dispatch) (ks : List JobItems) (from : LinkState) (i : ℕ) (p : LinkPlace) (h : Receiving) → LinkGoes jobs b job_table.jobs ks from i p h None → p ≡ Lost
slot_gone jobs b job_table ks from i Lost h g = refl
slot_gone jobs b job_table ks from i Idle h g = absurd g
slot_gone jobs b job_table ks from i (Busy j) h g = absurd g

abbrev IsLive : LinkPlace → Option LinkState → Type 0
IsLive Lost None = Unit {0}
IsLive Lost (Some s) = ⊥
IsLive Idle None = ⊥
IsLive Idle (Some s) = Unit {0}
IsLive (Busy j) None = ⊥
IsLive (Busy j) (Some s) = Unit {0}

-- as many links are left as are live
abbrev SlotsAs : List LinkPlace → List (Option LinkState) → Type 0
SlotsAs places slots = (i : ℕ) (p : LinkPlace) (slot : Option LinkState) → slice_get places i ≡ Some p → slice_get slots i ≡ Some slot → IsLive p slot

live_slots : (places : List LinkPlace) (slots : List (Option LinkState)) → length places ≡ length slots → SlotsAs places slots → length (somes slots) ≡ live places
live_slots [] [] n h = refl
live_slots [] (x ∷ xs) n h = absurd (omega arith)
live_slots (p ∷ ps) [] n h = absurd (omega arith)
live_slots (Lost ∷ ps) (None ∷ xs) n h = live_slots ps xs (omega arith) (λ i p x a c. h (suc i) p x a c)
live_slots (Lost ∷ ps) (Some s ∷ xs) n h = absurd (h 0 Lost (Some s) refl refl)
live_slots (Idle ∷ ps) (None ∷ xs) n h = absurd (h 0 Idle None refl refl)
live_slots (Idle ∷ ps) (Some s ∷ xs) n h = ap suc (live_slots ps xs (omega arith) (λ i p x a c. h (suc i) p x a c))
live_slots (Busy j ∷ ps) (None ∷ xs) n h = absurd (h 0 (Busy j) None refl refl)
live_slots (Busy j ∷ ps) (Some s ∷ xs) n h = ap suc (live_slots ps xs (omega arith) (λ i p x a c. h (suc i) p x a c))

is_live : (jobs : List Job) (b : Began) (places : List JobPlace) (ks : List JobItems) (from : LinkState) (i : ℕ) (p : LinkPlace) (h : Receiving) (slot : Option LinkState) → LinkGoes jobs b places ks from i p h slot → IsLive p slot
is_live jobs b places ks from i Lost h None g = tt
is_live jobs b places ks from i Lost h (Some s) g = g
is_live jobs b places ks from i Idle h None g = g
is_live jobs b places ks from i Idle h (Some s) g = tt
is_live jobs b places ks from i (Busy j) h None g = g
is_live jobs b places ks from i (Busy j) h (Some s) g = tt

-- a link of the run, with its receiving and its slot
record Linked (jobs : List Job) (b : Began) (s : State) (i : ℕ) (slot : Option LinkState) : Type 0 where
  place : LinkPlace
  place_is : slice_get s.job_table.links i ≡ Some place
  receive_reply : Receiving
  from : LinkState
  from_is : slice_get b.links i ≡ Some from
  goes : LinkGoes jobs b s.job_table.jobs s.kept.kept from i place receive_reply slot

linked : (jobs : List Job) (b : Began) (s : State) (i : ℕ) (slot : Option LinkState) → Going jobs b s → slice_get s.slots i ≡ Some slot → Linked jobs b s i slot
linked jobs b s i slot g e =
    let lt = slice_get_within s.slots i slot e in
    let p = get_some s.job_table.links i (omega (arith, lt, g.link_count)) in
    let h = get_some s.receivings i (omega (arith, lt, g.receive_count)) in
    let from = some_of (λ (f : LinkState). LinkGoes jobs b s.job_table.jobs s.kept.kept f i p.0 h.0 slot) (slice_get b.links i) (g.each_link i p.0 h.0 slot p.1 h.1 e) in
    record { place = p.0; place_is = p.1; receive_reply = h.0; from = from.0; from_is = from.1; goes = from.2 }

-- as many links are left as are live
live_now : (jobs : List Job) (links : List LinkState) (lost : List Entry) (s : State) → Going jobs (begun links lost) s → length (somes s.slots) ≡ live s.job_table.links
live_now jobs links lost s g = live_slots s.job_table.links s.slots g.link_count (λ i p slot a c. (let h = get_some s.receivings i (let lt = slice_get_within s.slots i slot c in omega (arith, lt, g.receive_count)) in let from = some_of (λ (f : LinkState). LinkGoes jobs (begun links lost) s.job_table.jobs s.kept.kept f i p h.0 slot) (slice_get links i) (g.each_link i p h.0 slot a h.1 c) in is_live jobs (begun links lost) s.job_table.jobs s.kept.kept from.0 i p h.0 slot from.2))

-- one link at least is left
pub some_left : (jobs : List Job) (links : List LinkState) (lost : List Entry) (s : State) (now : List LinkState) → Going jobs (begun links lost) s → AllEnded s.job_table.jobs → now ≡ somes s.slots → 0 < length links → 0 < length now
some_left jobs links lost s now g over e many = omega (arith, g.some over many, live_now jobs links lost s g, ap length e)

pub links_left : (jobs : List Job) (links : List LinkState) (lost : List Entry) (s : State) (now : List LinkState) → Going jobs (begun links lost) s → NoneBusy s.job_table → now ≡ somes s.slots → Left jobs links lost s.lost now
links_left jobs links lost s now g none e = record {
  slots = s.slots;
  slot_count = sym g.start_count;
  now_are = e;
  rests = λ i from x is at.
      let w = linked jobs (begun links lost) s i (Some x) g at in
      let same : w.from ≡ from = some_same w.from from (sym w.from_is ∙ is) in
      subst (λ f. Rests (begun links lost) (length jobs) f x) same (slot_left jobs (begun links lost) s.job_table s.kept.kept w.from i w.place w.receive_reply x w.place_is none w.goes);
  entries = g.losses.entries;
  is = g.losses.is;
  each = g.losses.each;
  gone = λ i at.
      let w = linked jobs (begun links lost) s i None g at in
      g.losses.has i (w.place_is ∙ ap Some (slot_gone jobs (begun links lost) s.job_table s.kept.kept w.from i w.place w.receive_reply w.goes));
  once =
      let n = live_now jobs links lost s g in
      omega (arith, n, ap length e, g.losses.count, g.link_count, g.start_count);
}

-- ---- what the functions' clauses say together

pub begun_of : (jobs : List Job) (links : List LinkState) (s t : State) → Starts jobs links s → GoesOn jobs s t → ((k : ℕ) → IsIdle t.job_table k → NoneWaits t.job_table) → Going jobs (begun links s.lost) t
begun_of jobs links s t a on idle = all_given jobs links s.lost t idle (on (fresh links s.lost) (going_start jobs links s a))

quiet_jobs : (e : DispatchFault) (jobs : List Job) (links : List LinkState) (before after : List Entry) (old new : ℕ) (now : List LinkState) → IsQuiet e old new → JobsFault jobs e links before after old new now
quiet_jobs faults.WorkersLost jobs links before after old new now h = absurd h
quiet_jobs (faults.Unread j i) jobs links before after old new now h = absurd h
quiet_jobs faults.PartSink jobs links before after old new now h = h
quiet_jobs faults.NoMemory jobs links before after old new now h = tt

run_leaves : (e : DispatchFault) (jobs : List Job) (links : List LinkState) (before : List Entry) (s t : State) (old : ℕ) → s.kept.faults ≡ old → Going jobs (begun links before) s → RunFault jobs e s t → SlotsLeave jobs links before old e t
run_leaves faults.WorkersLost jobs links before s t old q g h = h (begun links before) refl g
run_leaves (faults.Unread j i) jobs links before s t old q g h = h (begun links before) refl g
run_leaves faults.PartSink jobs links before s t old q g h = subst (λ n. Rises n t.kept.faults) q h
run_leaves faults.NoMemory jobs links before s t old q g h = tt

give_leaves : (e : DispatchFault) (jobs : List Job) (links : List LinkState) (before : List Entry) (t : State) (old : ℕ) → IsQuiet e old t.kept.faults → SlotsLeave jobs links before old e t
give_leaves faults.WorkersLost jobs links before t old h = absurd h
give_leaves (faults.Unread j i) jobs links before t old h = absurd h
give_leaves faults.PartSink jobs links before t old h = h
give_leaves faults.NoMemory jobs links before t old h = tt

pub going_each : (r : Result (Unit {0}) DispatchFault) (jobs : List Job) (s m t : State) → GoesOn jobs s m → ((k : ℕ) → IsIdle m.job_table k → NoneWaits m.job_table) → OnOk r (ReceivesOn jobs m t) → OnOk r ((links : List LinkState) → Starts jobs links s → Going jobs (begun links s.lost) t)
going_each (Err e) jobs s m t on idle h = tt
going_each (Ok u) jobs s m t on idle h = λ links a. h (begun links s.lost) refl (begun_of jobs links s m a on idle)

pub run_fault_each : (r : Result (Unit {0}) DispatchFault) (jobs : List Job) (s m t : State) → GoesOn jobs s m → ((k : ℕ) → IsIdle m.job_table k → NoneWaits m.job_table) → m.kept.faults ≡ s.kept.faults → IfErr r (λ e. RunFault jobs e m t)
    → IfErr r (λ e. (links : List LinkState) → Starts jobs links s → SlotsLeave jobs links s.lost s.kept.faults e t)
run_fault_each (Ok u) jobs s m t on idle q h = tt
run_fault_each (Err e) jobs s m t on idle q h = λ links a. run_leaves e jobs links s.lost m t s.kept.faults q (begun_of jobs links s m a on idle) h

pub give_fails_each : {A : Type 0} (r : Result A DispatchFault) (jobs : List Job) (s t : State) → IfErr r (λ e. IsQuiet e s.kept.faults t.kept.faults) → IfErr r (λ e. (links : List LinkState) → Starts jobs links s → SlotsLeave jobs links s.lost s.kept.faults e t)
give_fails_each (Ok u) jobs s t h = tt
give_fails_each (Err e) jobs s t h = λ links a. give_leaves e jobs links s.lost t s.kept.faults h

ready_drained : (known : Option Modelled) → IfSome known (λ t. (tree repo : Content) → Reads tree repo t → t.pending ≡ []) → IsDrained known known
ready_drained None h = tt
ready_drained (Some t) h = ((refl, refl), h)

pub starts_at : {A : Type 0} (f : A → LinkState) (jobs : List Job) (xs : List A) (job_table : Dispatch) (n m : ℕ) (slots : List (Option A)) (receivings : List Receiving) (kept : PartSinkState) (lost : List Entry)
    → job_table ≡ start n m → n ≡ length jobs → m ≡ length xs → slots ≡ map Some xs → length receivings ≡ length xs → kept.jobs ≡ jobs
    → ((i : ℕ) (s : LinkState) → slice_get (map f xs) i ≡ Some s → IsReady s) → ((j : ℕ) → j < length jobs → IsSomeAnd (slice_get kept.kept j) IsFresh)
    → Starts jobs (map f xs) (state f job_table slots receivings kept lost)
starts_at f jobs xs job_table n m slots receivings kept lost e en em es eh ek ready empty = record {
  job_table = e ∙ ap (λ x. start x m) en ∙ ap (start (length jobs)) (em ∙ sym (length-map xs f));
  slots = ap (map (option_map f)) es ∙ map_some f xs;
  receivings = eh ∙ sym (length-map xs f);
  keeps = ek;
  ready = λ i from is. ready_drained from.known (ready i from is);
  fresh = empty;
}

-- the links that are given back
pub given_back : {A : Type 0} (f : A → LinkState) (links old : List A) (slots : List (Option A)) → old ≡ [] → links ≡ old ++ somes slots → map f links ≡ somes (map (option_map f) slots)
given_back f links old slots none e = ap (map f) (e ∙ ap (λ l. l ++ somes slots) none) ∙ somes_map f slots

-- the link that couldn't read is given back
pub unread_back : (jobs : List Job) (b : Began) (j item : ℕ) (slots : List (Option LinkState)) (now : List LinkState) → UnreadLeaves jobs b j item slots → now ≡ somes slots → UnreadLeaves jobs b j item (map Some now)
unread_back jobs b j item slots now u e = record {
  now = u.now;
  is = ap (map Some) (e ∙ ap somes u.is);
  given = u.given;
  from = u.from;
  link = u.link;
  from_is = u.from_is;
  job = u.job;
  job_is = u.job_is;
  within = u.within;
  unread = u.unread;
}

-- ---- what is known of lost links

slotted : (jobs : List Job) (links : List LinkState) (s : State) (entries : List Entry) → Starts jobs links s → AddsLosses jobs links s.lost entries → AddsLosses jobs (somes s.slots) s.lost entries
slotted jobs links s entries a h = subst (λ l. AddsLosses jobs l s.lost entries) (sym (ap somes a.slots ∙ somes_all links)) h

pub give_known : (jobs : List Job) (links : List LinkState) (s : State) (entries : List Entry) → Starts jobs links s → ShowsLosses jobs s entries → AddsLosses jobs (somes s.slots) s.lost entries
give_known jobs links s entries a h = slotted jobs links s entries a (h (fresh links s.lost) (going_start jobs links s a))

pub run_known : (r : Result (Unit {0}) DispatchFault) (jobs : List Job) (links : List LinkState) (s m t : State) → Starts jobs links s → GoesOn jobs s m → ((k : ℕ) → IsIdle m.job_table k → NoneWaits m.job_table) → OnOk r (ReceivesOn jobs m t) → OnErr r (ShowsLossesOn jobs m t.lost) → AddsLosses jobs (somes s.slots) s.lost t.lost
run_known (Ok u) jobs links s m t a on idle ok err =
    let g = ok (begun links s.lost) refl (begun_of jobs links s m a on idle) in
    slotted jobs links s t.lost a (record { entries = g.losses.entries; is = g.losses.is; each = g.losses.each })
run_known (Err e) jobs links s m t a on idle ok err = slotted jobs links s t.lost a (err (begun links s.lost) refl (begun_of jobs links s m a on idle))

-- of all links, each in its slot
pub known_slotted : {A : Type 0} (f : A → LinkState) (jobs : List Job) (xs : List A) (slots : List (Option A)) (before after : List Entry) → slots ≡ map Some xs → AddsLosses jobs (somes (map (option_map f) slots)) before after → AddsLosses jobs (map f xs) before after
known_slotted f jobs xs slots before after e h = subst (λ l. AddsLosses jobs l before after) (ap (λ l. somes (map (option_map f) l)) e ∙ ap somes (map_some f xs) ∙ somes_all (map f xs)) h

pub adds_none : (jobs : List Job) (links : List LinkState) (before : List Entry) → AddsLosses jobs links before before
adds_none jobs links before = record { entries = []; is = sym (append_none before); each = tt }

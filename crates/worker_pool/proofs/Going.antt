-- What each event leaves of a run.
use Rattle.std.proofs.Common.{ℕ, zero, suc, ◌≡◌, ◌<◌, ◌+◌, ◌⊎◌, inl, inr, List, [], ◌∷◌, ◌++◌, Option, Some, None, length, refl, sym, ap, subst, arith, ◌∙◌, append_assoc, length-append, slice_get, set, length-set}
use Rattle.std.specs.Prelude.{IsSomeAnd}
use Rattle.std.specs.List.{AllByRecursion}
use Rattle.base_devices.specs.Content.{Content}
use Rattle.base_devices.specs.Links.{LinkState, Modelled}
use Rattle.base_model.specs.Text.{Text}
use Rattle.worker_pool.specs.Going.{Shows, IsSame}
use Rattle.std.proofs.lemmas.Option.{slice_get_within}
use Rattle.worker_protocol.specs.Frames.{Job}
use Rattle.worker_protocol.specs.PartSinkState.{JobItems}
use Rattle.worker_pool.specs.Dispatch.{Dispatch, AllEnded}
use Rattle.worker_pool.specs.declared.jobs.JobPlace.{JobPlace}
use Rattle.worker_pool.specs.declared.jobs.JobPlace.TheVariants.{With, Ended}
use Rattle.worker_pool.specs.declared.jobs.LinkPlace.{LinkPlace}
use Rattle.worker_pool.specs.declared.jobs.LinkPlace.TheVariants.{Idle, Busy, Lost}
use Rattle.worker_pool.proofs.Places.{get_set_same, get_set_other, get_set_cases, within}
use Rattle.worker_pool.specs.declared.replies.receiving.Receiving.{Receiving}
use Rattle.worker_pool.specs.declared.dispatch.fault.Lost.{Lost as Entry}
use Rattle.worker_pool.specs.Run.{State, Began, Replies, LinkGoes, JobGoes, IsLoss, Losses, withs, busies, somes, Going, live, ShowsLosses}
use Rattle.worker_pool.specs.Counts.{NoneFull, reads_of, sent_reads}
use Rattle.worker_pool.proofs.Counting.{alive, is_busy, is_with, live_set, busies_set, withs_set}

-- ---- lists

pub some_of : {X : Type 0} (P : X → Type 0) (o : Option X) → IsSomeAnd o P → (x : X) × (o ≡ Some x) × P x
some_of P None h = absurd h
some_of P (Some x) h = (x, refl, h)

pub is_some_at : {X : Type 0} (P : X → Type 0) (o : Option X) (x : X) → o ≡ Some x → P x → IsSomeAnd o P
is_some_at P o x e h = subst (λ u. IsSomeAnd u P) (sym e) h

pub some_same : {X : Type 0} (x y : X) → Some x ≡ Some y → x ≡ y
some_same x y e = cc

pub get_some : {X : Type 0} (xs : List X) (k : ℕ) → k < length xs → (x : X) × (slice_get xs k ≡ Some x)
get_some [] k h = absurd (omega arith)
get_some (x ∷ xs) zero h = (x, refl)
get_some (x ∷ xs) (suc k) h = get_some xs k (omega arith)

pub set_is : {X : Type 0} (xs : List X) (i : ℕ) (x : X) → slice_get xs i ≡ Some x → set xs i x ≡ xs
set_is [] i x e = refl
set_is (y ∷ xs) zero x e = ap (λ z. z ∷ xs) (sym (some_same y x e))
set_is (y ∷ xs) (suc i) x e = ap (λ l. y ∷ l) (set_is xs i x e)

pub set_twice : {X : Type 0} (xs : List X) (i : ℕ) (v w : X) → set (set xs i v) i w ≡ set xs i w
set_twice [] i v w = refl
set_twice (y ∷ xs) zero v w = refl
set_twice (y ∷ xs) (suc i) v w = ap (λ l. y ∷ l) (set_twice xs i v w)

-- ---- one link and one job change

-- what a change at link i and job j leaves
pub record Moves (s t : State) (i j : ℕ) (P : JobPlace) (Q : LinkPlace) (slot : Option LinkState) (h : Receiving) (m : JobItems) : Type 0 where
  pub job_table : t.job_table ≡ record { jobs = set s.job_table.jobs j P; links = set s.job_table.links i Q }
  pub slots : t.slots ≡ set s.slots i slot
  pub receivings : t.receivings ≡ set s.receivings i h
  pub kept : t.kept.kept ≡ set s.kept.kept j m
  pub jobs : t.kept.jobs ≡ s.kept.jobs

-- the other links' parts stay
link_stays : (jobs : List Job) (b : Began) (places : List JobPlace) (ks : List JobItems) (i j : ℕ) (P o : JobPlace) (m : JobItems) (from : LinkState) (a : ℕ) (p : LinkPlace) (h : Receiving) (slot : Option LinkState)
    → slice_get places j ≡ Some o → ((c : ℕ) → o ≡ With c → c ≡ i) → (a ≡ i → ⊥) → LinkGoes jobs b places ks from a p h slot → LinkGoes jobs b (set places j P) (set ks j m) from a p h slot
link_stays jobs b places ks i j P o m from a Lost h None at only n g = tt
link_stays jobs b places ks i j P o m from a Lost h (Some now) at only n g = g
link_stays jobs b places ks i j P o m from a Idle h None at only n g = g
link_stays jobs b places ks i j P o m from a Idle h (Some now) at only n g = g
link_stays jobs b places ks i j P o m from a (Busy c) h None at only n g = g
link_stays jobs b places ks i j P o m from a (Busy c) h (Some now) at only n g =
    let other : c ≡ j → ⊥ = λ e. n (only a (some_same o (With a) (sym at ∙ ap (slice_get places) (sym e) ∙ g.place))) in
    record {
      place = get_set_other places j c P other ∙ g.place;
      job = g.job;
      job_is = g.job_is;
      kept = g.kept;
      kept_is = get_set_other ks j c m other ∙ g.kept_is;
      goes = g.goes;
      faults = g.faults;
      later = g.later;
      sent = g.sent;
      since = g.since;
    }

pub not_over : (places : List JobPlace) (j : ℕ) (P o : JobPlace) → slice_get places j ≡ Some o → (P ≡ Ended → ⊥) → AllEnded (set places j P) → ⊥
not_over places j P o e n over =
    let at = get_set_same places j P o e in
    n (some_same P Ended (sym at ∙ over j (slice_get_within (set places j P) j P at)))

-- the counts of read jobs, where no link is lost and no count is at its end
abbrev pub ReadsAt : List Job → Began → List JobPlace → List LinkPlace → List (Option LinkState) → Type 0
ReadsAt jobs b places links slots = live links ≡ length links → NoneFull (somes slots) → reads_of (somes slots) ≡ reads_of b.links + sent_reads jobs places

pub going_update : (jobs : List Job) (b : Began) (s t : State) (i j : ℕ) (P o : JobPlace) (Q u : LinkPlace) (slot : Option LinkState) (h : Receiving) (k m : JobItems)
    → Going jobs b s → Moves s t i j P Q slot h m
    → slice_get s.job_table.links i ≡ Some u → slice_get s.job_table.jobs j ≡ Some o → slice_get s.kept.kept j ≡ Some k
    → ((a : ℕ) → o ≡ With a → a ≡ i) → is_with P + is_busy u ≡ is_with o + is_busy Q
    → Losses jobs b.links b.lost t.lost (set s.job_table.links i Q)
    → (AllEnded (set s.job_table.jobs j P) → 0 < live (set s.job_table.links i Q)) → ReadsAt jobs b (set s.job_table.jobs j P) (set s.job_table.links i Q) (set s.slots i slot)
    → ((job : Job) → slice_get jobs j ≡ Some job → JobGoes b job P m)
    → ((from : LinkState) → slice_get b.links i ≡ Some from → LinkGoes jobs b (set s.job_table.jobs j P) (set s.kept.kept j m) from i Q h slot)
    → Going jobs b t
going_update jobs b s t i j P o Q u slot h k m g mv el ej ek only balance losses some reads newjob newlink =
    let places : t.job_table.jobs ≡ set s.job_table.jobs j P = ap (λ (d : Dispatch). d.jobs) mv.job_table in
    let links : t.job_table.links ≡ set s.job_table.links i Q = ap (λ (d : Dispatch). d.links) mv.job_table in
    let h0 = get_some s.receivings i (omega (arith, within s.job_table.links i u el, g.link_count, g.receive_count)) in
    let s0 = get_some s.slots i (omega (arith, within s.job_table.links i u el, g.link_count)) in
    let from = get_some b.links i (omega (arith, within s.job_table.links i u el, g.link_count, g.start_count)) in
    record {
      job_count = ap length places ∙ length-set _ _ _ ∙ g.job_count;
      link_count = ap length links ∙ length-set _ _ _ ∙ g.link_count ∙ sym (ap length mv.slots ∙ length-set _ _ _);
      receive_count = ap length mv.receivings ∙ length-set _ _ _ ∙ g.receive_count ∙ sym (ap length mv.slots ∙ length-set _ _ _);
      start_count = g.start_count ∙ sym (ap length mv.slots ∙ length-set _ _ _);
      keeps = mv.jobs ∙ g.keeps;
      even = ap withs places ∙ (let w : withs (set s.job_table.jobs j P) ≡ busies (set s.job_table.links i Q) = omega (arith, withs_set s.job_table.jobs j o P ej, busies_set s.job_table.links i u Q el, g.even, balance) in w) ∙ sym (ap busies links);
      losses = subst (Losses jobs b.links b.lost t.lost) (sym links) losses;
      some = λ over many. subst (λ l. 0 < live l) (sym links) (some (subst AllEnded places over));
      reads = subst (λ x. ReadsAt jobs b x t.job_table.links t.slots) (sym places) (subst (λ x. ReadsAt jobs b (set s.job_table.jobs j P) x t.slots) (sym links) (subst (ReadsAt jobs b (set s.job_table.jobs j P) (set s.job_table.links i Q)) (sym mv.slots) reads));
      each_job = λ a job p e w0.
          let w : slice_get (set s.job_table.jobs j P) a ≡ Some p = ap (λ l. slice_get l a) (sym places) ∙ w0 in
          subst (λ l. IsSomeAnd (slice_get l a) (JobGoes b job p)) (sym mv.kept) (elim (get_set_cases s.job_table.jobs j a P p w) [
            | inl q ↦
                subst (λ c. IsSomeAnd (slice_get (set s.kept.kept j m) c) (JobGoes b job p)) (sym q.0)
                (subst (λ z. IsSomeAnd (slice_get (set s.kept.kept j m) j) (JobGoes b job z)) (sym q.1)
                (is_some_at (JobGoes b job P) (slice_get (set s.kept.kept j m) j) m (get_set_same s.kept.kept j m k ek) (newjob job (ap (slice_get jobs) (sym q.0) ∙ e))))
            | inr q ↦ subst (λ z. IsSomeAnd z (JobGoes b job p)) (sym (get_set_other s.kept.kept j a m q.0)) (g.each_job a job p e q.1)
          ]);
      each_link = λ a p y x w0 v0 z0.
          let w : slice_get (set s.job_table.links i Q) a ≡ Some p = ap (λ l. slice_get l a) (sym links) ∙ w0 in
          let v : slice_get (set s.receivings i h) a ≡ Some y = ap (λ l. slice_get l a) (sym mv.receivings) ∙ v0 in
          let z : slice_get (set s.slots i slot) a ≡ Some x = ap (λ l. slice_get l a) (sym mv.slots) ∙ z0 in
          subst (λ l. IsSomeAnd (slice_get b.links a) (λ f. LinkGoes jobs b l t.kept.kept f a p y x)) (sym places)
          (subst (λ l. IsSomeAnd (slice_get b.links a) (λ f. LinkGoes jobs b (set s.job_table.jobs j P) l f a p y x)) (sym mv.kept) (elim (get_set_cases s.job_table.links i a Q p w) [
            | inl q ↦
                let sx : slot ≡ x = some_same slot x (sym (get_set_same s.slots i slot s0.0 s0.1) ∙ ap (slice_get (set s.slots i slot)) (sym q.0) ∙ z) in
                let hy : h ≡ y = some_same h y (sym (get_set_same s.receivings i h h0.0 h0.1) ∙ ap (slice_get (set s.receivings i h)) (sym q.0) ∙ v) in
                subst (λ c. IsSomeAnd (slice_get b.links c) (λ f. LinkGoes jobs b (set s.job_table.jobs j P) (set s.kept.kept j m) f c p y x)) (sym q.0)
                (subst (λ c. IsSomeAnd (slice_get b.links i) (λ f. LinkGoes jobs b (set s.job_table.jobs j P) (set s.kept.kept j m) f i c y x)) (sym q.1)
                (subst (λ c. IsSomeAnd (slice_get b.links i) (λ f. LinkGoes jobs b (set s.job_table.jobs j P) (set s.kept.kept j m) f i Q c x)) hy
                (subst (λ c. IsSomeAnd (slice_get b.links i) (λ f. LinkGoes jobs b (set s.job_table.jobs j P) (set s.kept.kept j m) f i Q h c)) sx
                (is_some_at (λ f. LinkGoes jobs b (set s.job_table.jobs j P) (set s.kept.kept j m) f i Q h slot) (slice_get b.links i) from.0 from.1 (newlink from.0 from.1)))))
            | inr q ↦
                let was = some_of (λ (f : LinkState). LinkGoes jobs b s.job_table.jobs s.kept.kept f a p y x) (slice_get b.links a) (g.each_link a p y x q.1 (sym (get_set_other s.receivings i a h q.0) ∙ v) (sym (get_set_other s.slots i a slot q.0) ∙ z)) in
                is_some_at (λ f. LinkGoes jobs b (set s.job_table.jobs j P) (set s.kept.kept j m) f a p y x) (slice_get b.links a) was.0 was.1 (link_stays jobs b s.job_table.jobs s.kept.kept i j P o m was.0 a p y x ej only q.0 was.2)
          ]));
    }

-- ---- a busy link

pub record AtBusy (jobs : List Job) (b : Began) (s : State) (i j : ℕ) : Type 0 where
  pub receive_reply : Receiving
  pub receive_is : slice_get s.receivings i ≡ Some receive_reply
  pub now : LinkState
  pub slot_is : slice_get s.slots i ≡ Some (Some now)
  pub from : LinkState
  pub from_is : slice_get b.links i ≡ Some from
  pub goes : Replies jobs s.job_table.jobs s.kept.kept from i j receive_reply now

slot_there : (jobs : List Job) (b : Began) (s : State) (from : LinkState) (i j : ℕ) (h : Receiving) (slot : Option LinkState) → LinkGoes jobs b s.job_table.jobs s.kept.kept from i (Busy j) h slot → (now : LinkState) × (slot ≡ Some now) × Replies jobs s.job_table.jobs s.kept.kept from i j h now
slot_there jobs b s from i j h None g = absurd g
slot_there jobs b s from i j h (Some now) g = (now, refl, g)

pub busy_of : (jobs : List Job) (b : Began) (s : State) (i j : ℕ) → Going jobs b s → slice_get s.job_table.links i ≡ Some (Busy j) → AtBusy jobs b s i j
busy_of jobs b s i j g has =
    let lt = within s.job_table.links i (Busy j) has in
    let h = get_some s.receivings i (omega (arith, lt, g.link_count, g.receive_count)) in
    let slot = get_some s.slots i (omega (arith, lt, g.link_count)) in
    let from = some_of (λ (f : LinkState). LinkGoes jobs b s.job_table.jobs s.kept.kept f i (Busy j) h.0 slot.0) (slice_get b.links i) (g.each_link i (Busy j) h.0 slot.0 has h.1 slot.1) in
    let there = slot_there jobs b s from.0 i j h.0 slot.0 from.2 in
    record { receive_reply = h.0; receive_is = h.1; now = there.0; slot_is = slot.1 ∙ ap Some there.1; from = from.0; from_is = from.1; goes = there.2 }

pub only_with : (i a : ℕ) → With i ≡ With a → a ≡ i
only_with i a e = cc

pub job_table_same : (job_table : Dispatch) (i j : ℕ) (o : JobPlace) (u : LinkPlace) → slice_get job_table.links i ≡ Some u → slice_get job_table.jobs j ≡ Some o → job_table ≡ record { jobs = set job_table.jobs j o; links = set job_table.links i u }
job_table_same job_table i j o u el ej =
    let a : set job_table.jobs j o ≡ job_table.jobs = set_is job_table.jobs j o ej in
    let c : set job_table.links i u ≡ job_table.links = set_is job_table.links i u el in
    sym (ap (λ js. let d : Dispatch = record { jobs = js; links = set job_table.links i u } in d) a ∙ ap (λ ls. let d : Dispatch = record { jobs = job_table.jobs; links = ls } in d) c)

-- ---- losses

pub all_push : {X : Type 0} (P : X → Type 0) (xs : List X) (x : X) → AllByRecursion P xs → P x → AllByRecursion P (xs ++ x ∷ [])
all_push P [] x h p = (p, tt)
all_push P (y ∷ xs) x h p = (h.0, all_push P xs x h.1 p)

pub at_push : {X : Type 0} (xs : List X) (x : X) → slice_get (xs ++ x ∷ []) (length xs) ≡ Some x
at_push [] x = refl
at_push (y ∷ xs) x = at_push xs x

pub get_prefix : {X : Type 0} (xs : List X) (x m : X) (k : ℕ) → slice_get xs k ≡ Some m → slice_get (xs ++ x ∷ []) k ≡ Some m
get_prefix [] x m k e = absurd (let f : None ≡ Some m = e in cc)
get_prefix (y ∷ xs) x m zero e = e
get_prefix (y ∷ xs) x m (suc k) e = get_prefix xs x m k e

-- a link that isn't lost changes to another that isn't
pub losses_stay : (jobs : List Job) (links : List LinkState) (before after : List Entry) (places : List LinkPlace) (i : ℕ) (u Q : LinkPlace) → Losses jobs links before after places → slice_get places i ≡ Some u → alive u ≡ 1 → alive Q ≡ 1 → Losses jobs links before after (set places i Q)
losses_stay jobs links before after places i u Q l at a c = record {
  entries = l.entries;
  is = l.is;
  each = l.each;
  has = λ x e. elim (get_set_cases places i x Q Lost e) [
    | inl q ↦ absurd (let f : alive Q ≡ 0 = ap alive (sym q.1) in omega (arith, f, c))
    | inr q ↦ l.has x q.1
  ];
  count = omega (arith, l.count, live_set places i u Q at, a, c, length-set places i Q);
}

-- one more link is lost
pub losses_more : (jobs : List Job) (links : List LinkState) (before after later : List Entry) (places : List LinkPlace) (i : ℕ) (u : LinkPlace) (e : Entry) → Losses jobs links before after places → slice_get places i ≡ Some u → alive u ≡ 1
    → later ≡ after ++ e ∷ [] → e.place ≡ i → IsLoss jobs links e → Losses jobs links before later (set places i Lost)
losses_more jobs links before after later places i u e l at a is place loss = record {
  entries = l.entries ++ e ∷ [];
  is = is ∙ ap (λ es. es ++ e ∷ []) l.is ∙ append_assoc before l.entries (e ∷ []);
  each = all_push (IsLoss jobs links) l.entries e l.each loss;
  has = λ x w. elim (get_set_cases places i x Lost Lost w) [
    | inl q ↦ (length l.entries, e, at_push l.entries e, place ∙ sym q.0)
    | inr q ↦ let h = l.has x q.1 in (h.0, h.1, get_prefix l.entries e h.1 h.0 h.2, h.3)
  ];
  count = omega (arith, l.count, live_set places i u Lost at, a, length-set places i Lost, length-append l.entries (e ∷ []));
}

-- nothing more is reported
pub known_as_same : (jobs : List Job) (s : State) (after : List Entry) → after ≡ s.lost → ShowsLosses jobs s after
known_as_same jobs s after e = λ b g. record { entries = g.losses.entries; is = e ∙ g.losses.is; each = g.losses.each }

-- one loss more may be reported
pub known_more : (jobs : List Job) (s : State) (after : List Entry) (e : Entry) → (after ≡ s.lost) ⊎ (after ≡ s.lost ++ e ∷ []) → ((b : Began) → Going jobs b s → IsLoss jobs b.links e) → ShowsLosses jobs s after
known_more jobs s after e (inl same) why = known_as_same jobs s after same
known_more jobs s after e (inr more) why = λ b g. record {
  entries = g.losses.entries ++ e ∷ [];
  is = more ∙ ap (λ es. es ++ e ∷ []) g.losses.is ∙ append_assoc b.lost g.losses.entries (e ∷ []);
  each = all_push (IsLoss jobs b.links) g.losses.entries e g.losses.each (why b g);
}

pub shows_same : (P : Content → Content → Text → Type 0) (from now : Option Modelled) → Shows P from now → IsSame from now
shows_same P None None h = tt
shows_same P None (Some b) h = h
shows_same P (Some a) None h = h
shows_same P (Some a) (Some b) h = h.0

-- Bytes that a link gave, one after the other.
use Rattle.std.proofs.Common.{ℕ, zero, suc, true, ◌≡◌, ◌<◌, ◌≤◌, ◌+◌, ◌-◌, ◌^◌, List, [], ◌∷◌, ◌++◌, Option, Some, None, Result, Ok, Err, length, take, drop, refl, sym, ap, subst, arith, ◌∙◌, append_assoc, length-append, length-drop}
use Rattle.std.specs.Prelude.{min, IfSome, IfErr, IsSomeAnd}
use Rattle.std.specs.Int.{w32, to_be_bytes}
use Rattle.std.proofs.lemmas.List.{take-append-le, take-append-drop, take_at, drop_at, length-take-le}
use Rattle.std.proofs.Math.Seq.{take-append-add}
use Rattle.base_devices.specs.Cause.{Rises}
use Rattle.base_devices.specs.declared.device_error.DeviceError.{DeviceError}
use Rattle.base_devices.specs.declared.device_error.DeviceError.TheVariants as stops
use Rattle.base_devices.specs.Links.{LinkState, Modelled, GivesKnown, Receives, ErrorLeaves, last_five}
use Rattle.base_model.specs.Text.{Text}
use Rattle.worker_protocol.specs.Frames.{framed}
use Rattle.worker_protocol.specs.declared.replies.cause.LostCause.{LostCause}
use Rattle.worker_protocol.specs.declared.replies.cause.LostCause.TheVariants.{Device, Ended, Form, Sum}
use Rattle.worker_protocol.specs.declared.replies.cause.ReceiveFault.{ReceiveFault}
use Rattle.worker_protocol.specs.declared.replies.cause.ReceiveFault.TheVariants as faults
use Rattle.worker_protocol.specs.Takes.{TakesPrefix, Takes, IsDry, Breaks, Stops, HasReceived, CauseHolds, FaultLeaves, Refutes, Offers, OffersMany}

-- what is in a buffer after a write after its prefix
pub take_written : {X : Type 0} (prefix ys zs : List X) (a n : ℕ) → length prefix ≡ a → n ≤ length ys → take (a + n) (prefix ++ (ys ++ zs)) ≡ prefix ++ take n ys
take_written prefix ys zs a n e h =
    subst (λ k. take (k + n) (prefix ++ (ys ++ zs)) ≡ prefix ++ take n ys) e (take-append-add prefix (ys ++ zs) n ∙ ap (λ l. prefix ++ l) (take-append-le n ys zs h))

pub prefix_more : (old mid new : Option Modelled) (a b : List ℕ) (size : ℕ) → TakesPrefix old mid a → GivesKnown mid new b size → TakesPrefix old new (a ++ b)
prefix_more None None new a b s h g = g
prefix_more None (Some m) new a b s h g = cc
prefix_more (Some t) None new a b s h g = absurd (let e = h.2 in cc)
prefix_more (Some t) (Some m) new a b s h g =
    let same : m ≡ record t { pending = h.0 } = (let e = h.2 in cc) in
    let pending : m.pending ≡ h.0 = ap (λ (x : Modelled). x.pending) same in (
      drop (length b) m.pending,
      h.1 ∙ ap (λ l. a ++ l) (sym pending ∙ sym (take-append-drop (length b) m.pending) ∙ ap (λ l. l ++ drop (length b) m.pending) (sym g.0)) ∙ sym (append_assoc a b (drop (length b) m.pending)),
      g.1 ∙ ap (λ (x : Modelled). Some (record x { pending = drop (length b) m.pending })) same,
    )

-- bytes that were given after others
pub prefix_joins : (old mid new : Option Modelled) (a b : List ℕ) → TakesPrefix old mid a → TakesPrefix mid new b → TakesPrefix old new (a ++ b)
prefix_joins None None new a b h g = g
prefix_joins None (Some m) new a b h g = cc
prefix_joins (Some t) None new a b h g = absurd (let e = h.2 in cc)
prefix_joins (Some t) (Some m) new a b h g =
    let same : m ≡ record t { pending = h.0 } = (let e = h.2 in cc) in
    let pending : m.pending ≡ h.0 = ap (λ (x : Modelled). x.pending) same in (
      g.0,
      h.1 ∙ ap (λ l. a ++ l) (sym pending ∙ g.1) ∙ sym (append_assoc a b g.0),
      g.2 ∙ ap (λ (x : Modelled). Some (record x { pending = g.0 })) same,
    )

drop_empty : {X : Type 0} (n : ℕ) → drop {A = X} n [] ≡ []
drop_empty zero = refl
drop_empty (suc n) = refl

drop_drop : {X : Type 0} (n m : ℕ) (xs : List X) → drop m (drop n xs) ≡ drop (n + m) xs
drop_drop zero m xs = ap (λ k. drop k xs) (omega arith)
drop_drop (suc n) m [] = drop_empty m ∙ sym (drop_empty (suc n + m))
drop_drop (suc n) m (x ∷ xs) = let e : suc (n + m) ≡ suc n + m = omega arith in drop_drop n m xs ∙ ap (λ k. drop k (x ∷ xs)) e

drop_append : {X : Type 0} (n : ℕ) (xs ys : List X) → n ≤ length xs → drop n xs ++ ys ≡ drop n (xs ++ ys)
drop_append zero xs ys h = refl
drop_append (suc n) [] ys h = absurd (omega arith)
drop_append (suc n) (x ∷ xs) ys h = drop_append n xs ys (omega arith)

all_dropped : {X : Type 0} (xs : List X) → drop (length xs) xs ≡ []
all_dropped [] = refl
all_dropped (x ∷ xs) = all_dropped xs

pub five_joins : (x c : List ℕ) → last_five (last_five x ++ c) ≡ last_five (x ++ c)
five_joins x c =
    let lens : length (drop (length x - 5) x ++ c) ≡ (length x - (length x - 5)) + length c = omega (arith, length-append (drop (length x - 5) x) c, length-drop (length x - 5) x) in
    let le : length x - 5 ≤ length x = omega arith in
    ap (λ l. drop (length (drop (length x - 5) x ++ c) - 5) l) (drop_append (length x - 5) x c le)
    ∙ drop_drop (length x - 5) (length (drop (length x - 5) x ++ c) - 5) (x ++ c)
    ∙ (let e : (length x - 5) + (length (drop (length x - 5) x ++ c) - 5) ≡ length (x ++ c) - 5 = omega (arith, lens, length-append x c) in ap (λ k. drop k (x ++ c)) e)

append_nil : {X : Type 0} (xs : List X) → xs ++ [] ≡ xs
append_nil [] = refl
append_nil (x ∷ xs) = ap (λ l. x ∷ l) (append_nil xs)

five_twice : (x : List ℕ) → last_five (last_five x) ≡ last_five x
five_twice x = ap last_five (sym (append_nil (last_five x))) ∙ five_joins x [] ∙ ap last_five (append_nil x)

five_after : (x y a b : List ℕ) → last_five x ≡ last_five a → last_five (x ++ b) ≡ last_five (a ++ b)
five_after x y a b e = sym (five_joins x b) ∙ ap (λ l. last_five (l ++ b)) e ∙ five_joins a b

pub takes_joins : (old mid new : LinkState) (a b : List ℕ) → Takes old mid a → Takes mid new b → Takes old new (a ++ b)
takes_joins old mid new a b p q = record {
  known = prefix_joins old.known mid.known new.known a b p.known q.known;
  given = q.given ∙ five_after mid.given [] (old.given ++ a) b p.given ∙ ap last_five (append_assoc old.given a b);
  jobs = q.jobs ∙ p.jobs;
  reads = q.reads ∙ p.reads;
  faults = q.faults ∙ p.faults;
}

pub takes_more : (old mid new : LinkState) (a b : List ℕ) (size : ℕ) → Takes old mid a → Receives mid new b size → Takes old new (a ++ b)
takes_more old mid new a b size p q = record {
  known = prefix_more old.known mid.known new.known a b size p.known q.known;
  given = ap last_five q.given ∙ five_twice (mid.given ++ b) ∙ five_after mid.given [] (old.given ++ a) b p.given ∙ ap last_five (append_assoc old.given a b);
  jobs = q.jobs ∙ p.jobs;
  reads = q.reads ∙ p.reads;
  faults = q.faults ∙ p.faults;
}

prefix_none : (t : Option Modelled) → TakesPrefix t t []
prefix_none None = refl
prefix_none (Some t) = (t.pending, refl, refl)

pub takes_none : (s : LinkState) → Takes s s []
takes_none s = record {
  known = prefix_none s.known;
  given = ap last_five (sym (append_nil s.given));
  jobs = refl;
  reads = refl;
  faults = refl;
}

-- the last five bytes after five bytes
pub five_of : (old new : LinkState) (bytes : List ℕ) → Takes old new bytes → length bytes ≡ 5 → last_five new.given ≡ bytes
five_of old new bytes t e =
    t.given ∙ (let n : length (old.given ++ bytes) - 5 ≡ length old.given = omega (arith, length-append old.given bytes) in ap (λ k. drop k (old.given ++ bytes)) n) ∙ sym (drop_append (length old.given) old.given bytes (omega arith)) ∙ ap (λ l. l ++ bytes) (all_dropped old.given)

pub takes_frame : (a b c d : LinkState) (k n : ℕ) (body : List ℕ) → Takes a b (k ∷ []) → Takes b c (to_be_bytes w32 n) → Takes c d body → length body ≡ n → Takes a d (framed k body)
takes_frame a b c d k n body p q r e =
    let t : Takes a d (k ∷ (to_be_bytes w32 n ++ body)) = takes_joins a c d (k ∷ to_be_bytes w32 n) body (takes_joins a b c (k ∷ []) (to_be_bytes w32 n) p q) r in
    subst (λ m. Takes a d (k ∷ (to_be_bytes w32 m ++ body))) (sym e) t

pub takes_head : (a b c : LinkState) (k n : ℕ) → Takes a b (k ∷ []) → Takes b c (to_be_bytes w32 n) → n ≡ 0 → Takes a c (framed k [])
takes_head a b c k n p q e =
    let t : Takes a c (k ∷ to_be_bytes w32 n) = takes_joins a b c (k ∷ []) (to_be_bytes w32 n) p q in
    subst (λ m. Takes a c (k ∷ to_be_bytes w32 m)) e t

-- ---- where no more is given

steady_prefix : (old new : Option Modelled) (a : Text) → TakesPrefix old new a → IsSomeAnd old (λ t. t.steady ≡ true) → IsSomeAnd new (λ t. t.steady ≡ true)
steady_prefix None new a h s = absurd s
steady_prefix (Some t) new a h s = subst (λ o. IsSomeAnd o (λ (x : Modelled). x.steady ≡ true)) (sym h.2) s

-- a call that failed after these bytes
pub takes_stop : (e : DeviceError) (old mid new : LinkState) (a : Text) → Takes old mid a → ErrorLeaves e mid new → Stops e old new
takes_stop stops.Failed old mid new a t s = record {
  rises = subst (λ n. Rises n new.faults) t.faults s.rises;
  unsteady = λ steady. s.unsteady (steady_prefix old.known mid.known a t.known steady);
}
takes_stop stops.NoMemory old mid new a t s = tt

dry_known : (old new : Option Modelled) (got : Text) (size : ℕ) → GivesKnown old new got size → got ≡ [] → 0 < size → IfSome new (λ t. t.steady ≡ true → t.pending ≡ [])
dry_known None None got size g e some = tt
dry_known None (Some t) got size g e some = absurd (let f : Some t ≡ None = g in cc)
dry_known (Some t) None got size g e some = tt
dry_known (Some t) (Some u) got size g e some =
    let same : record t { pending = drop (length got) t.pending } ≡ u = (let w = g.1 in cc) in
    let none : length got ≡ 0 = ap length e in
    subst (λ (x : Modelled). x.steady ≡ true → x.pending ≡ []) same (λ steady. ap (λ k. drop k t.pending) none ∙ g.2 steady some e)

-- at its end a link is dry
pub takes_end : (old mid new : LinkState) (a got : Text) (size : ℕ) → Takes old mid a → Receives mid new got size → got ≡ [] → 0 < size → Takes old new a × IsDry new
takes_end old mid new a got size t g e some =
    (subst (Takes old new) (ap (λ (l : Text). a ++ l) e ∙ append_nil a) (takes_more old mid new a got size t g), dry_known mid.known new.known got size g.known e some)

-- ---- what a steady link offers

-- the bytes that were taken are those that were offered, and the others are offered still
pub offers_after : (old new : LinkState) (got x y : Text) → Takes old new got → Offers old (x ++ y) → length x ≡ length got → (got ≡ x) × Offers new y
offers_after old new got x y t o n =
    let prefix : (rest : Text) × (o.shows.pending ≡ got ++ rest) × (new.known ≡ Some (record o.shows { pending = rest })) = subst (λ (s : Option Modelled). TakesPrefix s new.known got) o.is t.known in
    let same : got ++ prefix.0 ≡ x ++ (y ++ o.rest) = sym prefix.1 ∙ o.pending ∙ append_assoc x y o.rest in
    let one : got ≡ x = sym (take_at got prefix.0 (length got) refl) ∙ ap (take (length got)) same ∙ take_at x (y ++ o.rest) (length got) n in
    let two : prefix.0 ≡ y ++ o.rest = sym (drop_at got prefix.0 (length got) refl) ∙ ap (drop (length got)) same ∙ drop_at x (y ++ o.rest) (length got) n in
    (one, record { shows = record o.shows { pending = prefix.0 }; is = prefix.2; steady = o.steady; rest = o.rest; pending = two })

dry_nothing : (new : Option Modelled) (t : Modelled) → IfSome new (λ u. u.steady ≡ true → u.pending ≡ []) → new ≡ Some t → t.steady ≡ true → t.pending ≡ []
dry_nothing None t d e s = absurd cc
dry_nothing (Some u) t d e s = subst (λ (x : Modelled). x.pending ≡ []) (let q : u ≡ t = cc in q) (d (subst (λ (x : Modelled). x.steady ≡ true) (let q : t ≡ u = cc in q) s))

-- a dry link offered no more than it gave
pub dry_refutes : (old new : LinkState) (got : Text) (n : ℕ) → Takes old new got → IsDry new → length got < n → ¬ OffersMany old n
dry_refutes old new got n t dry less o =
    let w = o.1 in
    let prefix : (rest : Text) × (w.shows.pending ≡ got ++ rest) × (new.known ≡ Some (record w.shows { pending = rest })) = subst (λ (s : Option Modelled). TakesPrefix s new.known got) w.is t.known in
    let none : prefix.0 ≡ [] = dry_nothing new.known (record w.shows { pending = prefix.0 }) dry prefix.2 w.steady in
    let len : length w.shows.pending ≡ length got = ap length (prefix.1 ∙ ap (λ (l : Text). got ++ l) none ∙ append_nil got) in
    omega (arith, less, o.2, len, ap length w.pending, length-append o.0 w.rest)

pub breaks_refutes : (old new : LinkState) (n : ℕ) → Breaks old new → ¬ OffersMany old n
breaks_refutes old new n b o =
    let w = o.1 in
    b.unsteady (subst (λ s. IsSomeAnd s (λ (t : Modelled). t.steady ≡ true)) (sym w.is) w.steady)

-- after the first bytes this many fewer are offered
pub many_after : (old new : LinkState) (got : Text) (n m : ℕ) → Takes old new got → OffersMany old n → length got + m ≡ n → OffersMany new m
many_after old new got n m t o e =
    let k = length got in
    let bytes = o.0 in
    let cut : take k bytes ++ drop k bytes ≡ bytes = take-append-drop k bytes in
    let len : length (take k bytes) ≡ k = length-take-le k bytes (omega (arith, o.2, e)) in
    let after = offers_after old new got (take k bytes) (drop k bytes) t (subst (Offers old) (sym cut) o.1) len in
    (drop k bytes, after.1, omega (arith, o.2, e, length-drop k bytes))

-- ---- causes after the first bytes

-- a count that continues
counts_join : (before k n at : ℕ) → at ≡ min (min (before + k) (2 ^ 64 - 1) + n) (2 ^ 64 - 1) → at ≡ min (before + (k + n)) (2 ^ 64 - 1)
counts_join before k n at e = omega (arith, e)

-- bytes that were received after others
pub received_after : (old mid new : LinkState) (a : Text) (before next at : ℕ) → Takes old mid a → next ≡ min (before + length a) (2 ^ 64 - 1) → HasReceived next at mid new → HasReceived before at old new
received_after old mid new a before next at t e h = record {
  bytes = a ++ h.bytes;
  takes = takes_joins old mid new a h.bytes t h.takes;
  count = subst (λ n. at ≡ min (before + n) (2 ^ 64 - 1)) (sym (length-append a h.bytes)) (counts_join before (length a) (length h.bytes) at (subst (λ n. at ≡ min (n + length h.bytes) (2 ^ 64 - 1)) e h.count));
}

cause_after : (c : LostCause) (old mid new : LinkState) (a : Text) (before next : ℕ) → Takes old mid a → next ≡ min (before + length a) (2 ^ 64 - 1) → CauseHolds c next mid new → CauseHolds c before old new
cause_after Device old mid new a before next t e h = subst (λ n. Rises n new.faults) t.faults h
cause_after (Ended at) old mid new a before next t e h = received_after old mid new a before next at t e h
cause_after (Form at) old mid new a before next t e h = received_after old mid new a before next at t e h
cause_after (Sum known found) old mid new a before next t e h = absurd h

pub fault_after : (f : ReceiveFault) (old mid new : LinkState) (a : Text) (before next : ℕ) → Takes old mid a → next ≡ min (before + length a) (2 ^ 64 - 1) → FaultLeaves f next mid new → FaultLeaves f before old new
fault_after (faults.Lost c) old mid new a before next t e h = cause_after c old mid new a before next t e h
fault_after faults.NoMemory old mid new a before next t e h = tt

pub refutes_by : (f : ReceiveFault) (P Q : Type 0) → Refutes f P → (Q → P) → Refutes f Q
refutes_by (faults.Lost c) P Q r by = λ q. r (by q)
refutes_by faults.NoMemory P Q r by = tt

-- a fault of a later read
pub lost_after : {A : Type 0} (r : Result A ReceiveFault) (old mid new : LinkState) (a : Text) (before next : ℕ) → Takes old mid a → next ≡ min (before + length a) (2 ^ 64 - 1)
    → IfErr r (λ e. FaultLeaves e next mid new) → IfErr r (λ e. FaultLeaves e before old new)
lost_after (Ok x) old mid new a before next t e h = tt
lost_after (Err f) old mid new a before next t e h = fault_after f old mid new a before next t e h

pub steady_after : {A : Type 0} (r : Result A ReceiveFault) (P Q : Type 0) → IfErr r (λ e. Refutes e P) → (Q → P) → IfErr r (λ e. Refutes e Q)
steady_after (Ok x) P Q h by = tt
steady_after (Err f) P Q h by = refutes_by f P Q h by

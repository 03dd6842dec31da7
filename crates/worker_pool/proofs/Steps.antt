-- What each frame leaves of a reply in its course.
use Rattle.std.proofs.Common.{ℕ, zero, suc, ◌≡◌, ◌≢◌, ◌<◌, ◌≤◌, ◌+◌, ◌-◌, ◌*◌, ◌^◌, List, [], ◌∷◌, ◌++◌, Bool, true, false, Option, Some, None, Result, Ok, Err, length, drop, refl, sym, ap, subst, arith, ◌∙◌, append_assoc, length-append, slice_get}
use Rattle.std.specs.Prelude.{◌==◌, min, if◌then◌else◌, IfOk, IfErr, IsSomeAnd}
use Rattle.std.specs.List.{flat_map, AllByRecursion}
use Rattle.std.proofs.lemmas.Bool.Decides.{nat_tests}
use Rattle.std.proofs.lemmas.Option.{slice_get_within}
use Rattle.sha1.specs.Sha1.{sha1}
use Rattle.sha1.specs.Sha1 as sha
use Rattle.base_devices.specs.Content.{Content}
use Rattle.base_devices.specs.Links.{Modelled, LinkState}
use Rattle.base_model.specs.Text.{Text}
use Rattle.worker_protocol.specs.declared.frames.frames.Root.TheVariants.{DataFolder, Repo}
use Rattle.worker_protocol.specs.declared.frames.frames.JobKind.{JobKind}
use Rattle.worker_protocol.specs.declared.frames.frames.JobKind.TheVariants.{Read, Digest}
use Rattle.worker_protocol.specs.Frames.{Item, Job, FitsItem, FitsJob, spell, part_size}
use Rattle.worker_protocol.specs.Frames.Frame.{Part, End, Vanished, Unread}
use Rattle.worker_protocol.specs.declared.sinks.ItemEnd.{ItemEnd}
use Rattle.worker_protocol.specs.declared.sinks.ItemEnd.TheVariants.{Whole, Vanished as Gone}
use Rattle.worker_protocol.specs.Lists.{ChangesAt}
use Rattle.worker_protocol.specs.PartSinkState.{Held, Done, JobItems, PartSinkState, Holds, Adds, Ends, IsNext, HasRoom}
use Rattle.worker_protocol.specs.Replies.{replies}
use Rattle.base_text.specs.declared.sum.Sum.{Sum}
use Rattle.worker_protocol.specs.declared.replies.cause.LostCause.{LostCause}
use Rattle.worker_protocol.specs.declared.replies.cause.LostCause.TheVariants as causes
use Rattle.worker_protocol.specs.declared.replies.cause.ReceiveFault.{ReceiveFault}
use Rattle.worker_protocol.specs.declared.replies.cause.ReceiveFault.TheVariants as receivings
use Rattle.worker_protocol.specs.Takes.{TakesPrefix, Takes, CauseHolds, FaultLeaves, Refutes, FormRefutes}
use Rattle.worker_protocol.specs.Receives.{OffersReply, BeginsReply}
use Rattle.worker_pool.specs.declared.replies.reply.Verdict.{Verdict}
use Rattle.worker_pool.specs.declared.replies.reply.Verdict.TheVariants as verdicts
use Rattle.worker_pool.specs.declared.replies.receiving.Receiving.{Receiving}
use Rattle.worker_pool.specs.declared.replies.fault.ReplyFault.{ReplyFault}
use Rattle.worker_pool.specs.Receivings.{StartsAt, ReceivesMore, MayFollow, EndsRight, IsOfTree, IsKnown, IsOfFrame}
use Rattle.worker_pool.specs.Reads.{IsSteadyWorker, IsHonest, IsPayload, IsSumOf, ReadBy, AbsentBy, UnreadBy, SumsBy, EndsAs, AllEnd, file_of}
use Rattle.worker_pool.specs.Going.{IsPending, ShowsItem, ShowsItems, IsDrained, Goes, At, IsAt, KeptAt, GoesOn, HasEnded, VerdictHolds, Blames, CountsFrame, ReceivedOf, after_end, items_cost, job_left}
use Rattle.worker_pool.proofs.Modelled.{IsNextPart, IsNextEnd, IsNextGone, pend_part, pend_end, pend_gone, pend_unread, shows_prefix, shows_where, honest_has, honest_begins, worker_offers, shows_first, shows_none}

-- ---- lists

pub some_same : {X : Type 0} (x y : X) → Some x ≡ Some y → x ≡ y
some_same x y e = cc

get_mid : {X : Type 0} (past : List X) (x : X) (left : List X) → slice_get (past ++ x ∷ left) (length past) ≡ Some x
get_mid [] x left = refl
get_mid (y ∷ past) x left = get_mid past x left

drop_past : {X : Type 0} (xs ys : List X) (n : ℕ) → n ≡ length xs → drop n (xs ++ ys) ≡ ys
drop_past [] ys zero e = refl
drop_past [] ys (suc n) e = absurd (omega arith)
drop_past (x ∷ xs) ys zero e = absurd (omega arith)
drop_past (x ∷ xs) ys (suc n) e = drop_past xs ys n (omega arith)

all_len : (from : Option Modelled) (kind : JobKind) (is : List Item) (ds : List Done) → AllEnd from kind is ds → length ds ≡ length is
all_len from kind [] [] h = refl
all_len from kind [] (x ∷ ds) h = absurd h
all_len from kind (y ∷ is) [] h = absurd h
all_len from kind (y ∷ is) (x ∷ ds) h = ap suc (all_len from kind is ds h.1)

all_push : (from : Option Modelled) (kind : JobKind) (is : List Item) (ds : List Done) (i : Item) (d : Done) → AllEnd from kind is ds → EndsAs from kind i d.held d.end → AllEnd from kind (is ++ i ∷ []) (ds ++ d ∷ [])
all_push from kind [] [] i d h e = (e, tt)
all_push from kind [] (x ∷ ds) i d h e = absurd h
all_push from kind (y ∷ is) [] i d h e = absurd h
all_push from kind (y ∷ is) (x ∷ ds) i d h e = (h.0, all_push from kind is ds i d h.1 e)

fits_mid : (past : List Item) (i : Item) (left : List Item) → AllByRecursion FitsItem (past ++ i ∷ left) → FitsItem i
fits_mid [] i left h = h.0
fits_mid (x ∷ past) i left h = fits_mid past i left h.1

-- ---- what is known of a reply in its course

pub next_at : (from now : Option Modelled) (job : Job) (k : JobItems) (h : Receiving) → (g : Goes from now job k h) → slice_get job.items h.item ≡ Some g.next
next_at from now job k h g = ap (slice_get job.items) g.index ∙ ap (λ l. slice_get l (length g.past)) g.split ∙ get_mid g.past g.next g.left

next_fits : (from now : Option Modelled) (job : Job) (k : JobItems) (h : Receiving) → (g : Goes from now job k h) → FitsJob job → FitsItem g.next
next_fits from now job k h g f = fits_mid g.past g.next g.left (subst (AllByRecursion FitsItem) g.split f.items)

-- of the item that it is at
pub at_next : (P : Item → Type 0) (job : Job) (index : ℕ) (i : Item) → slice_get job.items index ≡ Some i → IsSomeAnd (slice_get job.items index) P → P i
at_next P job index i e h = subst (λ o. IsSomeAnd o P) e h

pub is_next : (P : Item → Type 0) (job : Job) (index : ℕ) (i : Item) → slice_get job.items index ≡ Some i → P i → IsSomeAnd (slice_get job.items index) P
is_next P job index i e h = subst (λ o. IsSomeAnd o P) (sym e) h

-- what is left of a job at an item, and after it
left_at : (job : Job) (k : JobItems) (past : List Item) (next : Item) (left : List Item) → job.items ≡ past ++ next ∷ left → length k.done ≡ length past → job_left job k ≡ (suc next.size + items_cost left) - k.held.count
left_at job k past next left e n = ap (λ is. items_cost is - k.held.count) (ap (drop (length k.done)) e ∙ drop_past past (next ∷ left) (length k.done) n)

left_after : (job : Job) (k : JobItems) (past : List Item) (next : Item) (left : List Item) → job.items ≡ past ++ next ∷ left → length k.done ≡ suc (length past) → job_left job k ≡ items_cost left - k.held.count
left_after job k past next left e n =
    let regroup : past ++ next ∷ left ≡ (past ++ next ∷ []) ++ left = sym (append_assoc past (next ∷ []) left) in
    let len : length k.done ≡ length (past ++ next ∷ []) = omega (arith, n, length-append past (next ∷ [])) in
    ap (λ is. items_cost is - k.held.count) (ap (drop (length k.done)) (e ∙ regroup) ∙ drop_past (past ++ next ∷ []) left (length k.done) len)

-- ---- a part

small_room : (a b s : ℕ) → a + b ≤ s → s < 2 ^ 64 → a + b < 2 ^ 64
small_room a b s h l = omega (arith, h, l)

pub part_small : (job : Job) (number : ℕ) (h : Receiving) (s : PartSinkState) (v : Text) → IsAt job number h s → FitsJob job → MayFollow job h (length v) → h.count + length v < 2 ^ 64
part_small job number h s v a f m =
    let g = a.at.goes in
    small_room h.count (length v) g.next.size (at_next (λ i. h.count + length v ≤ i.size) job h.item g.next (next_at a.from a.now job a.kept h g) m.room) (next_fits a.from a.now job a.kept h g f).size

pub part_room : (job : Job) (number : ℕ) (h : Receiving) (s : PartSinkState) (v : Text) → IsAt job number h s → MayFollow job h (length v) → 0 < length v → length v ≤ part_size → HasRoom s number h.item v
part_room job number h s v a m some few =
    let g = a.at.goes in
    let at = next_at a.from a.now job a.kept h g in
    let room : h.count + length v ≤ g.next.size = at_next (λ i. h.count + length v ≤ i.size) job h.item g.next at m.room in
    record {
      kept = a.kept;
      kept_is = a.at.kept;
      done = all_len a.from job.kind g.past a.kept.done g.ended ∙ sym g.index;
      asked = job;
      asked_is = a.at.asked;
      next = g.next;
      next_is = at;
      room = omega (arith, room, g.count, g.held.0);
      some = some;
      few = few;
      parts = g.parts;
      aligned = g.held.0 ∙ g.aligned m.full;
    }

-- a steady worker's part may follow
pub part_follows : (from old new : Option Modelled) (job : Job) (k : JobItems) (h : Receiving) (v : Text) → Goes from old job k h → TakesPrefix old new (spell (Part v)) → 0 < length v → length v ≤ part_size → IsHonest from → MayFollow job h (length v)
part_follows from old new job k h v g t some few w =
    let all = shows_where (λ tree repo pending. IsPending job.kind g.next (file_of g.next tree repo) g.left g.bytes h.full tree repo pending) (λ tree repo. IsNextPart job.kind g.next g.bytes v h.full) from old new (spell (Part v)) g.known t
    (λ tree repo pending rest p e. (pend_part job.kind g.next (file_of g.next tree repo) g.left g.bytes v h.full tree repo pending rest some few p e).0) in
    let one = (honest_has from (λ tree repo. IsNextPart job.kind g.next g.bytes v h.full) all w).2 in
    record { reads = one.reads; full = one.full_is; room = is_next (λ i. h.count + length v ≤ i.size) job h.item g.next (next_at from old job k h g) (omega (arith, one.room, g.count)) }

full_parts : (n parts : ℕ) (bytes v : Text) → (length v == part_size) ≡ true → length bytes ≡ parts * part_size → length (bytes ++ v) ≡ suc parts * part_size
full_parts n parts bytes v t e =
    let size : length v ≡ part_size = grind (arith, nat_tests, t) in
    length-append bytes v ∙ (let q : length bytes + length v ≡ part_size + parts * part_size = omega (arith, size, e) in q) ∙ (let r : part_size + parts * part_size ≡ suc parts * part_size = grind arith in r)

pub part_goes : (from old new : Option Modelled) (job : Job) (k m : JobItems) (h n : Receiving) (v : Text) → Goes from old job k h → Adds v k m → ReceivesMore v h n → TakesPrefix old new (spell (Part v)) → MayFollow job h (length v) → 0 < length v → length v ≤ part_size → Goes from new job m n
part_goes from old new job k m h n v g adds more t follows some few =
    let room : h.count + length v ≤ g.next.size = at_next (λ i. h.count + length v ≤ i.size) job h.item g.next (next_at from old job k h g) follows.room in
    let known : ShowsItem job.kind g.next g.left (g.bytes ++ v) (length v == part_size) from new =
    shows_prefix (λ tree repo pending. IsPending job.kind g.next (file_of g.next tree repo) g.left g.bytes h.full tree repo pending) (λ tree repo pending. IsPending job.kind g.next (file_of g.next tree repo) g.left (g.bytes ++ v) (length v == part_size) tree repo pending) from old new (spell (Part v)) g.known t
    (λ tree repo pending rest p e. (pend_part job.kind g.next (file_of g.next tree repo) g.left g.bytes v h.full tree repo pending rest some few p e).1) in
    record {
      past = g.past;
      next = g.next;
      left = g.left;
      bytes = g.bytes ++ v;
      parts = suc g.parts;
      split = g.split;
      index = more.item ∙ g.index;
      count = more.count ∙ ap (λ c. c + length v) g.count ∙ sym (length-append g.bytes v);
      aligned = λ full. full_parts 0 g.parts g.bytes v (sym more.full ∙ full) (g.aligned follows.full);
      digest = more.digest g.bytes g.digest;
      held = adds.held g.bytes g.held;
      ended = subst (AllEnd from job.kind g.past) (sym adds.done) g.ended;
      room = omega (arith, room, length-append g.bytes v, g.count);
      none = λ e. absurd (let f : Read ≡ Digest = sym follows.reads ∙ e in cc);
      known = subst (λ b. ShowsItem job.kind g.next g.left (g.bytes ++ v) b from new) (sym more.full) known;
    }

pub part_on : (from old new : Option Modelled) (job : Job) (number : ℕ) (k : JobItems) (h n : Receiving) (v : Text) (s u : PartSinkState) → At from old job number h s k → (u.faults ≡ s.faults) × (u.jobs ≡ s.jobs) × ChangesAt (Adds v) s.kept u.kept number
    → ReceivesMore v h n → TakesPrefix old new (spell (Part v)) → MayFollow job h (length v) → 0 < length v → length v ≤ part_size → GoesOn from new job number n k s u
part_on from old new job number k h n v s u a kept more t follows some few =
    let g = a.goes in
    let m = kept.2.after in
    let adds = kept.2.by k a.kept in
    let room : h.count + length v ≤ g.next.size = at_next (λ i. h.count + length v ≤ i.size) job h.item g.next (next_at from old job k h g) follows.room in
    let len = all_len from job.kind g.past k.done g.ended in
    let one = left_at job k g.past g.next g.left g.split len in
    let two = left_at job m g.past g.next g.left g.split (ap length adds.done ∙ len) in
    let more_held : m.held.count ≡ k.held.count + length v = (adds.held g.bytes g.held).0 ∙ length-append g.bytes v ∙ ap (λ c. c + length v) (sym g.held.0) in
    record {
      kept = m;
      is = record { faults = kept.0; jobs = kept.1; kept = kept.2.is };
      goes = part_goes from old new job k m h n v g adds more t follows some few;
      falls = omega (arith, one, two, more_held, room, g.count, g.held.0, some);
    }

-- ---- the end of an item

pub next_is : (job : Job) (number : ℕ) (h : Receiving) (s : PartSinkState) → IsAt job number h s → IsNext s number h.item
next_is job number h s a =
    let g = a.at.goes in
    record {
      kept = a.kept;
      kept_is = a.at.kept;
      done = all_len a.from job.kind g.past a.kept.done g.ended ∙ sym g.index;
      asked = job;
      asked_is = a.at.asked;
      within = slice_get_within job.items h.item g.next (next_at a.from a.now job a.kept h g);
    }

small_next : (a n : ℕ) → a < n → n < 2 ^ 32 → a + 1 < 2 ^ 32
small_next a n h l = omega (arith, h, l)

pub item_small : (job : Job) (number : ℕ) (h : Receiving) (s : PartSinkState) → IsAt job number h s → FitsJob job → h.item + 1 < 2 ^ 32
item_small job number h s a f = small_next h.item (length job.items) (slice_get_within job.items h.item a.at.goes.next (next_at a.from a.now job a.kept h a.at.goes)) f.few

ends_all : (from : Option Modelled) (kind : JobKind) (is : List Item) (i : Item) (how : ItemEnd) (k m : JobItems) → AllEnd from kind is k.done → EndsAs from kind i k.held how → Ends how k m → AllEnd from kind (is ++ i ∷ []) m.done
ends_all from kind is i how k m h e ends = subst (AllEnd from kind (is ++ i ∷ [])) (sym ends.done) (all_push from kind is k.done i (record { held = k.held; end = how }) h e)

-- after an item ended, with the items that are left
record Onward (from new : Option Modelled) (job : Job) (k m : JobItems) (n : Receiving) (index : ℕ) : Type 0 where
  last : index + 1 ≡ length job.items → AllEnd from job.kind job.items m.done × IsDrained from new
  more : index + 1 ≢ length job.items → Goes from new job m n
  falls : job_left job m < job_left job k

left_less : (job : Job) (k m : JobItems) (past : List Item) (i : Item) (left : List Item) (how : ItemEnd) → job.items ≡ past ++ i ∷ left → length k.done ≡ length past → Ends how k m → k.held.count ≤ i.size → job_left job m < job_left job k
left_less job k m past i left how split len ends room =
    let more : length m.done ≡ suc (length past) = ap length ends.done ∙ (let q : length (k.done ++ (record { held = k.held; end = how }) ∷ []) ≡ suc (length past) = omega (arith, len, length-append k.done ((record { held = k.held; end = how }) ∷ [])) in q) in
    let one = left_at job k past i left split len in
    let two = left_after job m past i left split more in
    let none : m.held.count ≡ 0 = ends.held.0 in
    omega (arith, one, two, none, room)

onward : (from new : Option Modelled) (job : Job) (k m : JobItems) (n : Receiving) (index : ℕ) (past : List Item) (i : Item) (left : List Item) (how : ItemEnd) → job.items ≡ past ++ i ∷ left → index ≡ length past → AllEnd from job.kind past k.done → Ends how k m
    → EndsAs from job.kind i k.held how → ShowsItems job.kind left from new → StartsAt (index + 1) n → k.held.count ≤ i.size → Onward from new job k m n index
onward from new job k m n index past i [] how split at ended ends e t starts room = record {
  last = λ q. (subst (λ is. AllEnd from job.kind is m.done) (sym split) (ends_all from job.kind past i how k m ended e ends), shows_none job.kind from new t);
  more = λ q. absurd (q (omega (arith, at, ap length split, length-append past (i ∷ []))));
  falls = left_less job k m past i [] how split (all_len from job.kind past k.done ended) ends room;
}
onward from new job k m n index past i (x ∷ left) how split at ended ends e t starts room = record {
  last = λ q. absurd (omega (arith, q, at, ap length split, length-append past (i ∷ x ∷ left)));
  more = λ q. record {
    past = past ++ i ∷ [];
    next = x;
    left = left;
    bytes = [];
    parts = 0;
    split = split ∙ sym (append_assoc past (i ∷ []) (x ∷ left));
    index = starts.item ∙ (let r : index + 1 ≡ length (past ++ i ∷ []) = omega (arith, at, length-append past (i ∷ [])) in r);
    count = starts.count;
    aligned = λ full. grind arith;
    digest = starts.digest;
    held = ends.held;
    ended = ends_all from job.kind past i how k m ended e ends;
    room = omega arith;
    none = λ kind. refl;
    known = subst (λ b. ShowsItem job.kind x left [] b from new) (sym starts.full) (shows_first job.kind x left from new t);
  };
  falls = left_less job k m past i (x ∷ left) how split (all_len from job.kind past k.done ended) ends room;
}

true_false : (b : Bool) → b ≡ true → b ≡ false → ⊥
true_false true e f = absurd cc
true_false false e f = absurd cc

verdict_of : (b : Bool) (from new : Option Modelled) (job : Job) (number : ℕ) (n : Receiving) (k : JobItems) (s u : PartSinkState) → (b ≡ true → HasEnded from new job number k s u) → (b ≡ false → GoesOn from new job number n k s u)
    → VerdictHolds (if b then verdicts.Ended else verdicts.More) from new job number n k s u
verdict_of true from new job number n k s u ended more = ended refl
verdict_of false from new job number n k s u ended more = more refl

-- an item's end leads on, where it is right and the rest is known
pub end_on : (from old new : Option Modelled) (job : Job) (number : ℕ) (k : JobItems) (h n : Receiving) (how : ItemEnd) (s u : PartSinkState) → (a : At from old job number h s k) → (u.faults ≡ s.faults) × (u.jobs ≡ s.jobs) × ChangesAt (Ends how) s.kept u.kept number
    → StartsAt (h.item + 1) n → EndsAs from job.kind a.goes.next k.held how → ShowsItems job.kind a.goes.left from new → VerdictHolds (after_end job h.item) from new job number n k s u
end_on from old new job number k h n how s u a kept starts e t =
    let g = a.goes in
    let m = kept.2.after in
    let is : KeptAt s u number m = record { faults = kept.0; jobs = kept.1; kept = kept.2.is } in
    let on = onward from new job k m n h.item g.past g.next g.left how g.split g.index g.ended (kept.2.by k a.kept) e t starts (omega (arith, g.held.0, g.room)) in
    verdict_of (h.item + 1 == length job.items) from new job number n k s u
    (λ q. let same : h.item + 1 ≡ length job.items = grind (arith, nat_tests, q) in let w = on.last same in record { kept = m; is = is; items = w.0; drained = w.1; falls = on.falls })
    (λ q. record { kept = m; is = is; goes = on.more (λ same. (let f : (h.item + 1 == length job.items) ≡ true = grind (arith, nat_tests, same) in absurd (true_false (h.item + 1 == length job.items) f q))); falls = on.falls })

-- ---- an end with a number and a digest

ends_whole : (from : Option Modelled) (kind : JobKind) (i : Item) (held : Held) (n : ℕ) (sum : Sum) (bytes : Text) → Holds held bytes → (kind ≡ Read → (n ≡ length bytes) × (sum.0 ≡ sha1 bytes)) → (kind ≡ Digest → bytes ≡ []) → length bytes ≤ i.size → n ≤ i.size
    → (kind ≡ Read → ReadBy from i bytes) → SumsBy from i n sum.0 → EndsAs from kind i held (Whole n sum)
ends_whole from Read i held n sum bytes h c z l small w q = record { bytes = bytes; holds = h; sums = record { number = (c refl).0; digest = (c refl).1 }; size = l; read = w refl }
ends_whole from Digest i held n sum bytes h c z l small w q = (subst (Holds held) (z refl) h, small, q)

pub end_held : (from old new : Option Modelled) (job : Job) (k : JobItems) (h : Receiving) (n : ℕ) (sum : Sum) (found : Text) → (g : Goes from old job k h) → TakesPrefix old new (spell (End n sum.0)) → FitsJob job → n < 2 ^ 64 → length sum.0 ≡ 20
    → ((m : Text) → sha.Holds h.digest m → found ≡ sha1 m) → EndsRight job h.item h.count n sum.0 found → EndsAs from job.kind g.next k.held (Whole n sum)
end_held from old new job k h n sum found g t f ln ls digest right =
    let P : Content → Content → Text → Type 0 = λ tree repo pending. IsPending job.kind g.next (file_of g.next tree repo) g.left g.bytes h.full tree repo pending in
    let size = (next_fits from old job k h g f).size in
    let step = λ (tree repo : Content) (pending rest : Text) (p : P tree repo pending) (e : pending ≡ spell (End n sum.0) ++ rest). (pend_end job.kind g.next (file_of g.next tree repo) g.left g.bytes h.full tree repo n sum.0 pending rest size ln ls p e).0 in
    ends_whole from job.kind g.next k.held n sum g.bytes g.held
    (λ r. ((right.read r).0 ∙ g.count, (right.read r).1 ∙ digest g.bytes g.digest)) g.none g.room (at_next (λ i. n ≤ i.size) job h.item g.next (next_at from old job k h g) right.size)
    (λ r. shows_where P (λ tree repo. IsPayload g.next (file_of g.next tree repo) g.bytes) from old new (spell (End n sum.0)) g.known t (λ tree repo pending rest p e. let q = step tree repo pending rest p e in subst (IsPayload g.next (file_of g.next tree repo)) (sym (q.read r)) q.is))
    (shows_where P (λ tree repo. (bytes : Text) × IsPayload g.next (file_of g.next tree repo) bytes × IsSumOf n sum.0 bytes) from old new (spell (End n sum.0)) g.known t (λ tree repo pending rest p e. let q = step tree repo pending rest p e in (q.whole, q.is, q.sums)))

pub end_rest : (from old new : Option Modelled) (job : Job) (k : JobItems) (h : Receiving) (n : ℕ) (s : Text) → (g : Goes from old job k h) → TakesPrefix old new (spell (End n s)) → FitsJob job → n < 2 ^ 64 → length s ≡ 20 → ShowsItems job.kind g.left from new
end_rest from old new job k h n s g t f ln ls =
    shows_prefix (λ tree repo pending. IsPending job.kind g.next (file_of g.next tree repo) g.left g.bytes h.full tree repo pending) (λ tree repo pending. pending ≡ flat_map spell (replies job.kind g.left tree repo)) from old new (spell (End n s)) g.known t
    (λ tree repo pending rest p e. (pend_end job.kind g.next (file_of g.next tree repo) g.left g.bytes h.full tree repo n s pending rest (next_fits from old job k h g f).size ln ls p e).1)

-- a steady worker's end is right
pub end_true : (from old new : Option Modelled) (job : Job) (k : JobItems) (h : Receiving) (n : ℕ) (s found : Text) → Goes from old job k h → TakesPrefix old new (spell (End n s)) → FitsJob job → n < 2 ^ 64 → length s ≡ 20
    → ((m : Text) → sha.Holds h.digest m → found ≡ sha1 m) → IsHonest from → EndsRight job h.item h.count n s found
end_true from old new job k h n s found g t f ln ls digest w =
    let P : Content → Content → Text → Type 0 = λ tree repo pending. IsPending job.kind g.next (file_of g.next tree repo) g.left g.bytes h.full tree repo pending in
    let all = shows_where P (λ tree repo. IsNextEnd job.kind g.next (file_of g.next tree repo) g.bytes n s) from old new (spell (End n s)) g.known t
    (λ tree repo pending rest p e. (pend_end job.kind g.next (file_of g.next tree repo) g.left g.bytes h.full tree repo n s pending rest (next_fits from old job k h g f).size ln ls p e).0) in
    let one = (honest_has from (λ tree repo. IsNextEnd job.kind g.next (file_of g.next tree repo) g.bytes n s) all w).2 in
    record {
      size = is_next (λ i. n ≤ i.size) job h.item g.next (next_at from old job k h g) (omega (arith, one.size, one.sums.number));
      read = λ r. (one.sums.number ∙ ap length (sym (one.read r)) ∙ sym g.count, one.sums.digest ∙ ap sha1 (sym (one.read r)) ∙ sym (digest g.bytes g.digest));
    }

-- ---- an absent item

no_bytes : (bytes : Text) → length bytes ≡ 0 → bytes ≡ []
no_bytes [] e = refl
no_bytes (x ∷ bytes) e = absurd (omega arith)

ends_gone : (from : Option Modelled) (kind : JobKind) (i : Item) (held : Held) → Holds held [] → i.root ≡ DataFolder → AbsentBy from i → EndsAs from kind i held Gone
ends_gone from Read i held h t a = (h, t, a)
ends_gone from Digest i held h t a = (h, t, a)

pub gone_held : (from old new : Option Modelled) (job : Job) (k : JobItems) (h : Receiving) → (g : Goes from old job k h) → TakesPrefix old new (spell Vanished) → h.count ≡ 0 → IsOfTree job h.item → EndsAs from job.kind g.next k.held Gone
gone_held from old new job k h g t none tree =
    let empty : g.bytes ≡ [] = no_bytes g.bytes (sym g.count ∙ none) in
    ends_gone from job.kind g.next k.held (subst (Holds k.held) empty g.held) (at_next (λ i. i.root ≡ DataFolder) job h.item g.next (next_at from old job k h g) tree)
    (shows_where (λ tree repo pending. IsPending job.kind g.next (file_of g.next tree repo) g.left g.bytes h.full tree repo pending) (λ tree repo. file_of g.next tree repo ≡ None) from old new (spell Vanished) g.known t
    (λ tree repo pending rest p e. (pend_gone job.kind g.next (file_of g.next tree repo) g.left g.bytes h.full tree repo pending rest p e).0.absent))

pub gone_rest : (from old new : Option Modelled) (job : Job) (k : JobItems) (h : Receiving) → (g : Goes from old job k h) → TakesPrefix old new (spell Vanished) → ShowsItems job.kind g.left from new
gone_rest from old new job k h g t =
    shows_prefix (λ tree repo pending. IsPending job.kind g.next (file_of g.next tree repo) g.left g.bytes h.full tree repo pending) (λ tree repo pending. pending ≡ flat_map spell (replies job.kind g.left tree repo)) from old new (spell Vanished) g.known t
    (λ tree repo pending rest p e. (pend_gone job.kind g.next (file_of g.next tree repo) g.left g.bytes h.full tree repo pending rest p e).1)

pub gone_true : (from old new : Option Modelled) (job : Job) (k : JobItems) (h : Receiving) → Goes from old job k h → TakesPrefix old new (spell Vanished) → IsHonest from → (h.count ≡ 0) × IsOfTree job h.item
gone_true from old new job k h g t w =
    let all = shows_where (λ tree repo pending. IsPending job.kind g.next (file_of g.next tree repo) g.left g.bytes h.full tree repo pending) (λ tree repo. IsNextGone g.next (file_of g.next tree repo) g.bytes) from old new (spell Vanished) g.known t
    (λ tree repo pending rest p e. (pend_gone job.kind g.next (file_of g.next tree repo) g.left g.bytes h.full tree repo pending rest p e).0) in
    let one = (honest_has from (λ tree repo. IsNextGone g.next (file_of g.next tree repo) g.bytes) all w).2 in
    (g.count ∙ ap length one.none, is_next (λ i. i.root ≡ DataFolder) job h.item g.next (next_at from old job k h g) one.root)

-- an item that can't be read is absent from the repository
pub unread_by : (from old new : Option Modelled) (job : Job) (k : JobItems) (h : Receiving) (i : Item) → Goes from old job k h → TakesPrefix old new (spell Unread) → slice_get job.items h.item ≡ Some i → UnreadBy from i
unread_by from old new job k h i g t e =
    let same : g.next ≡ i = some_same g.next i (sym (next_at from old job k h g) ∙ e) in
    subst (UnreadBy from) same
    (shows_where (λ tree repo pending. IsPending job.kind g.next (file_of g.next tree repo) g.left g.bytes h.full tree repo pending) (λ tree repo. (g.next.root ≡ Repo) × (file_of g.next tree repo ≡ None)) from old new (spell Unread) g.known t
    (λ tree repo pending rest p e2. pend_unread job.kind g.next (file_of g.next tree repo) g.left g.bytes h.full tree repo pending rest p e2))

-- a frame is received from a steady worker
pub reply_offered : (from : Option Modelled) (s : LinkState) (job : Job) (k : JobItems) (h : Receiving) → Goes from s.known job k h → FitsJob job → IsSteadyWorker from → OffersReply s
reply_offered from s job k h g f w = worker_offers from s job.kind g.next g.left g.bytes h.full (next_fits from s.known job k h g f).size g.known w

reply_begins : (from : Option Modelled) (s : LinkState) (job : Job) (k : JobItems) (h : Receiving) → Goes from s.known job k h → FitsJob job → IsHonest from → BeginsReply s
reply_begins from s job k h g f w = honest_begins from s job.kind g.next g.left g.bytes h.full (next_fits from s.known job k h g f).size g.known w

-- a cause that isn't an honest link's
pub blames : (c : LostCause) (from : Option Modelled) → ¬ IsHonest from → Blames c from
blames causes.Device from n = tt
blames (causes.Ended at) from n = tt
blames (causes.Form at) from n = n
blames (causes.Sum known found) from n = n

blames_form : (c : LostCause) (from : Option Modelled) (P : Type 0) → FormRefutes (receivings.Lost c) P → (IsHonest from → P) → Blames c from
blames_form causes.Device from P r by = tt
blames_form (causes.Ended at) from P r by = tt
blames_form (causes.Form at) from P r by = λ w. r (by w)
blames_form (causes.Sum known found) from P r by = λ w. r (by w)

-- a frame that wasn't received of a link in its reply
pub reply_blames : (e : ReceiveFault) (c : LostCause) (from : Option Modelled) (s : LinkState) (job : Job) (k : JobItems) (h : Receiving) → e ≡ receivings.Lost c → FormRefutes e (BeginsReply s) → Goes from s.known job k h → FitsJob job → Blames c from
reply_blames e c from s job k h q r g f = blames_form c from (BeginsReply s) (subst (λ x. FormRefutes x (BeginsReply s)) q r) (reply_begins from s job k h g f)

-- ---- how many bytes were received

pub part_length : (v : Text) → 5 + length v ≡ length (spell (Part v))
part_length v = omega arith

pub end_length : (n : ℕ) (sum : Text) → length sum ≡ 20 → 33 ≡ length (spell (End n sum))
end_length n sum e = omega (arith, e)

pub counts_as : (r : Result Verdict ReplyFault) (before after a b : ℕ) → a ≡ b → IfOk r (λ v. CountsFrame v before a after) → IfOk r (λ v. CountsFrame v before b after)
counts_as r before after a b e h = subst (λ n. IfOk r (λ v. CountsFrame v before n after)) e h

either_counts : (b : Bool) (before size after : ℕ) → after ≡ min (before + size) (2 ^ 64 - 1) → CountsFrame (if b then verdicts.Ended else verdicts.More) before size after
either_counts true before size after h = h
either_counts false before size after h = h

pub ended_counts : (job : Job) (item before size after : ℕ) (v : Verdict) → v ≡ after_end job item → after ≡ min (before + size) (2 ^ 64 - 1) → CountsFrame v before size after
ended_counts job item before size after v e h = subst (λ x. CountsFrame x before size after) (sym e) (either_counts (item + 1 == length job.items) before size after h)

pub cause_counts : (c : LostCause) (before size received_reply after : ℕ) → IsOfFrame c received_reply → received_reply ≡ min (before + size) (2 ^ 64 - 1) → after ≡ received_reply → CountsFrame (verdicts.Lost c) before size after
cause_counts causes.Device before size received_reply after h e f = absurd h
cause_counts (causes.Ended at) before size received_reply after h e f = absurd h
cause_counts (causes.Form at) before size received_reply after h e f = h ∙ e
cause_counts (causes.Sum known found) before size received_reply after h e f = f ∙ e

verdict_received : (v : Verdict) (before after : ℕ) (old new : LinkState) (bytes : Text) → Takes old new bytes → CountsFrame v before (length bytes) after → ReceivedOf v before after old new
verdict_received verdicts.More before after old new bytes t c = record { bytes = bytes; takes = t; count = c }
verdict_received verdicts.Ended before after old new bytes t c = record { bytes = bytes; takes = t; count = c }
verdict_received (verdicts.Lost causes.Device) before after old new bytes t c = absurd c
verdict_received (verdicts.Lost (causes.Ended at)) before after old new bytes t c = absurd c
verdict_received (verdicts.Lost (causes.Form at)) before after old new bytes t c = record { bytes = bytes; takes = t; count = c }
verdict_received (verdicts.Lost (causes.Sum known found)) before after old new bytes t c = record { bytes = bytes; takes = t; count = c }

pub received_counts : (r : Result Verdict ReplyFault) (before after : ℕ) (old new : LinkState) (bytes : Text) → Takes old new bytes → IfOk r (λ v. CountsFrame v before (length bytes) after) → IfOk r (λ v. ReceivedOf v before after old new)
received_counts (Ok v) before after old new bytes t h = verdict_received v before after old new bytes t h
received_counts (Err e) before after old new bytes t h = tt

cause_received : (c : LostCause) (before after : ℕ) (old new : LinkState) → CauseHolds c before old new → ReceivedOf (verdicts.Lost c) before after old new
cause_received causes.Device before after old new h = h
cause_received (causes.Ended at) before after old new h = h
cause_received (causes.Form at) before after old new h = h
cause_received (causes.Sum known found) before after old new h = absurd h

pub lost_received : (e : ReceiveFault) (c : LostCause) (before after : ℕ) (old new : LinkState) → e ≡ receivings.Lost c → FaultLeaves e before old new → ReceivedOf (verdicts.Lost c) before after old new
lost_received e c before after old new q h = cause_received c before after old new (subst (λ x. FaultLeaves x before old new) q h)

-- ---- what the clauses of the functions say together

-- the same for a frame that is spelled so
pub as_frame : (r : Result Verdict ReplyFault) (V : Verdict → Option Modelled → Option Modelled → JobItems → Type 0) (A : Option Modelled → Option Modelled → JobItems → Type 0) (x y : Text) → x ≡ y
    → IfOk r (λ v. (from old new : Option Modelled) (k : JobItems) → A from old k → TakesPrefix old new x → V v from new k) → IfOk r (λ v. (from old new : Option Modelled) (k : JobItems) → A from old k → TakesPrefix old new y → V v from new k)
as_frame (Ok v) V A x y e h = λ from old new k a t. h from old new k a (subst (TakesPrefix old new) (sym e) t)
as_frame (Err f) V A x y e h = tt

-- after the frame was received
pub received_ok : (r : Result Verdict ReplyFault) (V : Verdict → Option Modelled → Option Modelled → JobItems → Type 0) (A : Option Modelled → Option Modelled → JobItems → Type 0) (x : Text) (t u : Option Modelled) → TakesPrefix t u x
    → IfOk r (λ v. (from old new : Option Modelled) (k : JobItems) → A from old k → TakesPrefix old new x → V v from new k) → IfOk r (λ v. (from : Option Modelled) (k : JobItems) → A from t k → V v from u k)
received_ok (Ok v) V A x t u prefix h = λ from k a. h from t u k a prefix
received_ok (Err f) V A x t u prefix h = tt

pub received_err : (r : Result Verdict ReplyFault) (F : ReplyFault → Option Modelled → Type 0) (A : Option Modelled → Option Modelled → JobItems → Type 0) (x : Text) (t u : Option Modelled) → TakesPrefix t u x
    → IfErr r (λ e. (from old new : Option Modelled) (k : JobItems) → A from old k → TakesPrefix old new x → F e from) → IfErr r (λ e. (from : Option Modelled) (k : JobItems) → A from t k → F e from)
received_err (Ok v) F A x t u prefix h = tt
received_err (Err f) F A x t u prefix h = λ from k a. h from t u k a prefix

-- a frame that isn't received states no sums
lost_known : (cause : LostCause) (before : ℕ) (old new : LinkState) → CauseHolds cause before old new → IsKnown cause
lost_known causes.Device before old new h = tt
lost_known (causes.Ended at) before old new h = tt
lost_known (causes.Form at) before old new h = tt
lost_known (causes.Sum known found) before old new h = absurd h

pub lost_cause : (e : ReceiveFault) (cause : LostCause) (before : ℕ) (old new : LinkState) → e ≡ receivings.Lost cause → FaultLeaves e before old new → IsKnown cause
lost_cause e cause before old new q h = lost_known cause before old new (subst (λ x. FaultLeaves x before old new) q h)

pub lost_refuted : (e : ReceiveFault) (cause : LostCause) (P : Type 0) → e ≡ receivings.Lost cause → Refutes e P → ¬ P
lost_refuted e cause P q h = subst (λ x. Refutes x P) q h

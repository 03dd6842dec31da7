-- What giving workers their roots leaves.
use Rattle.std.proofs.Common.{ℕ, zero, suc, ◌≡◌, ◌<◌, ◌≤◌, ◌+◌, ◌-◌, ◌^◌, ◌⊎◌, inl, inr, List, [], ◌∷◌, ◌++◌, true, Option, Some, None, Result, Ok, Err, length, map, refl, sym, ap, subst, arith, ◌∙◌, append_assoc, length-append, slice_get}
use Rattle.std.specs.Prelude.{IfSome, IsSomeAnd, OnOk, OnErr, min}
use Rattle.std.specs.List.{AllByRecursion}
use Rattle.std.specs.Iterator.{Yields}
use Rattle.std.specs.Vec.Iter.{into_iter_items, into_iter_steps}
use Rattle.std.specs.declared.vec.IntoIter.{IntoIter}
use Rattle.std.proofs.lemmas.Option.{slice_get_within}
use Rattle.base_devices.specs.Content.{Content}
use Rattle.base_devices.specs.Links.{LinkState, Modelled, Sends, Answers}
use Rattle.base_model.specs.Text.{Text}
use Rattle.worker_protocol.specs.Frames.{Roots, FitsRoots, spell}
use Rattle.worker_protocol.specs.Frames.Frame.{Setup}
use Rattle.worker_protocol.specs.declared.replies.cause.LostCause.TheVariants.{Device}
use Rattle.worker_pool.specs.Reads.{Reads, IsSteadyWorker}
use Rattle.worker_pool.specs.Going.{IsSame, IsDrained}
use Rattle.worker_pool.specs.declared.dispatch.fault.Lost.{Lost as Entry}
use Rattle.worker_pool.specs.declared.dispatch.fault.DispatchFault.{DispatchFault}
use Rattle.worker_pool.specs.Setups.{Kept}
use Rattle.worker_pool.specs.Run.{Rests, IsLoss, IsReady, Left, AddsLosses, AllLost, begun, somes}
use Rattle.worker_pool.proofs.Going.{some_same, all_push, at_push, get_prefix}
use Rattle.worker_pool.proofs.Whole.{somes_push, somes_none, append_none}

-- ---- one link

sent_drained : (old new : Option Modelled) (frame : Text) (roots : Roots) → Answers old new frame → FitsRoots roots → frame ≡ spell (Setup roots) → IfSome old (λ t. (tree repo : Content) → Reads tree repo t → t.pending ≡ []) → IsDrained old new
sent_drained None None frame roots a f e r = tt
sent_drained None (Some c) frame roots a f e r = absurd (let q : Some c ≡ None = a in cc)
sent_drained (Some t) None frame roots a f e r = absurd (let q : None ≡ Some (record t { pending = t.pending ++ t.answer frame }) = a in cc)
sent_drained (Some t) (Some c) frame roots a f e r =
    let same : record t { pending = t.pending ++ t.answer frame } ≡ c = (let w = a in cc) in
    subst (λ x. IsDrained (Some t) (Some x)) same
    ((refl, refl), λ tree repo reads. ap (λ l. l ++ t.answer frame) (r tree repo reads) ∙ ap t.answer e ∙ reads.setup roots f)

setup_sent : (old new : LinkState) (frame : Text) (roots : Roots) → Sends old new frame → frame ≡ spell (Setup roots) → new.jobs ≡ old.jobs
setup_sent old new frame roots s e = subst (λ f. Sends old new f → new.jobs ≡ old.jobs) (sym e) (λ t. t.jobs) s

few : (links : List LinkState) (x : LinkState) → length (links ++ x ∷ []) ≤ 0 → ⊥
few links x h = omega (arith, h, length-append links (x ∷ []))

set_rests : (links : List LinkState) (before : List Entry) (old new : LinkState) (frame : Text) (roots : Roots) → Sends old new frame → FitsRoots roots → frame ≡ spell (Setup roots) → IsReady old → Rests (begun (links ++ old ∷ []) before) 0 old new
set_rests links before old new frame roots s f e r = record {
  drained = sent_drained old.known new.known frame roots s.known f e r;
  faults = s.faults;
  later = subst (λ n. min old.jobs (2 ^ 64 - 1) ≤ n) (sym (setup_sent old new frame roots s e)) (omega arith);
  sent = λ all le. absurd (few links old le);
}

-- ---- one more link

rests_more : (links : List LinkState) (x : LinkState) (before : List Entry) (from s : LinkState) → Rests (begun links before) 0 from s → Rests (begun (links ++ x ∷ []) before) 0 from s
rests_more links x before from s r = record { drained = r.drained; faults = r.faults; later = r.later; sent = λ all le. absurd (few links x le) }

loss_more : (links : List LinkState) (x : LinkState) (e : Entry) → IsLoss [] links e → IsLoss [] (links ++ x ∷ []) e
loss_more links x e l = record { from = l.from; is = get_prefix links x l.from e.place l.is; unsteady = l.unsteady; known = l.known; blamed = l.blamed; seen = l.seen }

losses_grow : (links : List LinkState) (x : LinkState) (es : List Entry) → AllByRecursion (IsLoss [] links) es → AllByRecursion (IsLoss [] (links ++ x ∷ [])) es
losses_grow links x [] h = tt
losses_grow links x (e ∷ es) h = (loss_more links x e h.0, losses_grow links x es h.1)

-- an element of a list with one more: of the list, or the new one
at_either : {X : Type 0} (xs : List X) (x m : X) (k : ℕ) → slice_get (xs ++ x ∷ []) k ≡ Some m → (slice_get xs k ≡ Some m) ⊎ ((k ≡ length xs) × (m ≡ x))
at_either [] x m zero e = inr (refl, sym (some_same x m e))
at_either [] x m (suc k) e = absurd (let f : None ≡ Some m = e in cc)
at_either (y ∷ xs) x m zero e = inl e
at_either (y ∷ xs) x m (suc k) e = elim (at_either xs x m k e) [ inl h ↦ inl h | inr h ↦ inr (ap suc h.0, h.1) ]

lower : {X : Type 0} (xs : List X) (x y m : X) (k : ℕ) → k < length xs → slice_get (xs ++ x ∷ []) k ≡ Some m → slice_get xs k ≡ Some m
lower xs x y m k lt e = elim (at_either xs x m k e) [ inl h ↦ h | inr h ↦ absurd (omega (arith, lt, h.0)) ]

left_some : (links : List LinkState) (before after : List Entry) (now : List LinkState) (old new : LinkState) → Left [] links before after now → Rests (begun (links ++ old ∷ []) before) 0 old new → Left [] (links ++ old ∷ []) before after (now ++ new ∷ [])
left_some links before after now old new l r = record {
  slots = l.slots ++ Some new ∷ [];
  slot_count = length-append l.slots (Some new ∷ []) ∙ (let n = l.slot_count in let q : length l.slots + 1 ≡ length (links ++ old ∷ []) = omega (arith, n, length-append links (old ∷ [])) in q);
  now_are = ap (λ x. x ++ new ∷ []) l.now_are ∙ sym (somes_push l.slots new);
  rests = λ i from s is at. elim (at_either l.slots (Some new) (Some s) i at) [
    | inl h ↦ rests_more links old before from s (l.rests i from s (lower links old old from i (let w = slice_get_within l.slots i (Some s) h in omega (arith, w, l.slot_count)) is) h)
    | inr h ↦
        let same : s ≡ new = some_same s new h.1 in
        let first : from ≡ old = some_same from old (sym is ∙ ap (slice_get (links ++ old ∷ [])) (h.0 ∙ l.slot_count) ∙ at_push links old) in
        subst (λ x. Rests (begun (links ++ old ∷ []) before) 0 x s) (sym first) (subst (λ x. Rests (begun (links ++ old ∷ []) before) 0 old x) (sym same) r)
  ];
  entries = l.entries;
  is = l.is;
  each = losses_grow links old l.entries l.each;
  gone = λ i at. elim (at_either l.slots (Some new) None i at) [
    | inl h ↦ l.gone i h
    | inr h ↦ absurd (let f : None ≡ Some new = h.1 in cc)
  ];
  once = omega (arith, l.once, length-append now (new ∷ []), length-append links (old ∷ []));
}

left_none : (links : List LinkState) (before after later : List Entry) (now : List LinkState) (old : LinkState) (e : Entry) → Left [] links before after now → later ≡ after ++ e ∷ [] → e.place ≡ length links → IsLoss [] (links ++ old ∷ []) e → Left [] (links ++ old ∷ []) before later now
left_none links before after later now old e l is place loss = record {
  slots = l.slots ++ None ∷ [];
  slot_count = length-append l.slots (None ∷ []) ∙ (let n = l.slot_count in let q : length l.slots + 1 ≡ length (links ++ old ∷ []) = omega (arith, n, length-append links (old ∷ [])) in q);
  now_are = l.now_are ∙ sym (somes_none l.slots);
  rests = λ i from s is at. elim (at_either l.slots None (Some s) i at) [
    | inl h ↦ rests_more links old before from s (l.rests i from s (lower links old old from i (let w = slice_get_within l.slots i (Some s) h in omega (arith, w, l.slot_count)) is) h)
    | inr h ↦ absurd (let f : Some s ≡ None = h.1 in cc)
  ];
  entries = l.entries ++ e ∷ [];
  is = is ∙ ap (λ es. es ++ e ∷ []) l.is ∙ append_assoc before l.entries (e ∷ []);
  each = all_push (IsLoss [] (links ++ old ∷ [])) l.entries e (losses_grow links old l.entries l.each) loss;
  gone = λ i at. elim (at_either l.slots None None i at) [
    | inl h ↦ (let w = l.gone i h in (w.0, w.1, get_prefix l.entries e w.1 w.0 w.2, w.3))
    | inr h ↦ (length l.entries, e, at_push l.entries e, place ∙ sym l.slot_count ∙ sym h.0)
  ];
  once = omega (arith, l.once, length-append l.entries (e ∷ []), length-append links (old ∷ []));
}

same_known : (known : Option Modelled) → IsSame known known
same_known None = tt
same_known (Some t) = (refl, refl)

worker_steady : (known : Option Modelled) → IsSteadyWorker known → IsSomeAnd known (λ t. t.steady ≡ true)
worker_steady None h = h
worker_steady (Some t) h = h.steady

pub left_more : (links : List LinkState) (before after later : List Entry) (now after_now : List LinkState) (old : LinkState) (frame : Text) (place : ℕ) → Left [] links before after now → Kept frame place old now after_now after later → place ≡ length links → IsReady old → (r : (roots : Roots) × FitsRoots roots × (frame ≡ spell (Setup roots))) → Left [] (links ++ old ∷ []) before later after_now
left_more links before after later now after_now old frame place l (inl k) p ready r =
    let first = left_some links before after now old k.0 l (set_rests links before old k.0 frame r.0 k.1 r.1 r.2 ready) in
    subst (λ x. Left [] (links ++ old ∷ []) before x after_now) (sym k.3) (subst (λ x. Left [] (links ++ old ∷ []) before after x) (sym k.2) first)
left_more links before after later now after_now old frame place l (inr k) p ready r =
    subst (λ x. Left [] (links ++ old ∷ []) before later x) (sym k.2)
    (left_none links before after later now old (record { place = place; cause = Device }) l k.3 p
    (record {
      from = old;
      is = ap (slice_get (links ++ old ∷ [])) p ∙ at_push links old;
      unsteady = λ w. k.1.unsteady (worker_steady old.known w);
      known = tt;
      blamed = tt;
      seen = record { begun = old; last = k.0; same = same_known old.known; faults = refl; holds = k.1.rises };
    }))

pub left_first : (before : List Entry) → Left [] [] before before []
left_first before = record {
  slots = [];
  slot_count = refl;
  now_are = refl;
  rests = λ i from s is at. absurd (let f : None ≡ Some (Some s) = at in cc);
  entries = [];
  is = sym (append_none before);
  each = tt;
  gone = λ i at. absurd (let f : None ≡ Some None = at in cc);
  once = refl;
}

-- where none is left, each slot is empty
all_empty : (slots : List (Option LinkState)) (i : ℕ) → somes slots ≡ [] → i < length slots → slice_get slots i ≡ Some None
all_empty [] i none lt = absurd (omega (arith, lt))
all_empty (None ∷ slots) zero none lt = refl
all_empty (None ∷ slots) (suc i) none lt = all_empty slots i none (omega (arith, lt))
all_empty (Some s ∷ slots) i none lt = absurd (let n : length (s ∷ somes slots) ≡ 0 = ap length none in omega (arith, n))

pub all_lost_left : (links : List LinkState) (before after : List Entry) (now : List LinkState) → Left [] links before after now → now ≡ [] → AllLost [] (begun links before) after
all_lost_left links before after now l none = record {
  entries = l.entries;
  is = l.is;
  each = l.each;
  has = λ i lt. l.gone i (all_empty l.slots i (sym l.now_are ∙ none) (omega (arith, lt, l.slot_count)));
  count = (let n : length now ≡ 0 = ap length none in omega (arith, n, l.once));
}

-- ---- one link after the other

-- what an iterator has given is a prefix of its items
pub taken_prefix : {X Z : Type 0} (s : IntoIter X Z) (xs : List X) (t : IntoIter X Z) → Yields into_iter_steps s xs t → into_iter_items s ≡ xs ++ into_iter_items t
taken_prefix s [] t y = ap into_iter_items y
taken_prefix s (x ∷ xs) t y = y.1.0 ∙ ap (λ ys. x ∷ ys) (taken_prefix y.0 xs t y.2)

mid_at : {A : Type 0} (f : A → LinkState) (ys : List A) (x : A) (rest : List A) → slice_get (map f (ys ++ x ∷ rest)) (length ys) ≡ Some (f x)
mid_at f [] x rest = refl
mid_at f (y ∷ ys) x rest = mid_at f ys x rest

pub ready_of : {A : Type 0} (f : A → LinkState) (xs ys : List A) (x : A) (rest : List A) → xs ≡ ys ++ x ∷ rest → ((i : ℕ) (s : LinkState) → slice_get (map f xs) i ≡ Some s → IsReady s) → IsReady (f x)
ready_of f xs ys x rest e h = h (length ys) (f x) (ap (λ l. slice_get (map f l) (length ys)) e ∙ mid_at f ys x rest)

pub place_next : {A : Type 0} (xs ys : List A) (x : A) (rest : List A) (place next : ℕ) → xs ≡ ys ++ x ∷ rest → length xs < 2 ^ 32 → place ≡ length ys → next ≡ min (place + 1) (2 ^ 32 - 1) → next ≡ length (ys ++ x ∷ [])
place_next xs ys x rest place next e few p n = omega (arith, few, p, n, ap length e, length-append ys (x ∷ rest), length-append ys (x ∷ []))

pub map_push : {A : Type 0} (f : A → LinkState) (ys : List A) (x : A) → map f (ys ++ x ∷ []) ≡ map f ys ++ f x ∷ []
map_push f [] x = refl
map_push f (y ∷ ys) x = ap (λ l. f y ∷ l) (map_push f ys x)

-- ---- what is known of lost links

get_after : {X : Type 0} (xs ys : List X) (m : X) (k : ℕ) → slice_get xs k ≡ Some m → slice_get (xs ++ ys) k ≡ Some m
get_after [] ys m k e = absurd (let f : None ≡ Some m = e in cc)
get_after (x ∷ xs) ys m zero e = e
get_after (x ∷ xs) ys m (suc k) e = get_after xs ys m k e

losses_within : (links more : List LinkState) (es : List Entry) → AllByRecursion (IsLoss [] links) es → AllByRecursion (IsLoss [] (links ++ more)) es
losses_within links more [] h = tt
losses_within links more (e ∷ es) h = (record { from = h.0.from; is = get_after links more h.0.from e.place h.0.is; unsteady = h.0.unsteady; known = h.0.known; blamed = h.0.blamed; seen = h.0.seen }, losses_within links more es h.1)

map_prefix : {A : Type 0} (f : A → LinkState) (ys rest : List A) → map f (ys ++ rest) ≡ map f ys ++ map f rest
map_prefix f [] rest = refl
map_prefix f (y ∷ ys) rest = ap (λ l. f y ∷ l) (map_prefix f ys rest)

-- the losses of a prefix are losses of all
pub known_prefix : {A : Type 0} (f : A → LinkState) (xs ys rest : List A) (before after : List Entry) (now : List LinkState) → xs ≡ ys ++ rest → Left [] (map f ys) before after now → AddsLosses [] (map f xs) before after
known_prefix f xs ys rest before after now e l = record {
  entries = l.entries;
  is = l.is;
  each = subst (λ (links : List LinkState). AllByRecursion (IsLoss [] links) l.entries) (sym (ap (map f) e ∙ map_prefix f ys rest)) (losses_within (map f ys) (map f rest) l.entries l.each);
}

pub on_err : {A : Type 0} (r : Result A DispatchFault) (P : Type 0) → P → OnErr r P
on_err (Ok x) P p = tt
on_err (Err e) P p = p

-- whatever the result
pub setup_known : (r : Result (Unit {0}) DispatchFault) (links : List LinkState) (before after : List Entry) (now : List LinkState) → OnOk r (Left [] links before after now) → OnErr r (AddsLosses [] links before after) → AddsLosses [] links before after
setup_known (Ok u) links before after now l h = record { entries = l.entries; is = l.is; each = l.each }
setup_known (Err e) links before after now l h = h

-- Which frame the bytes of a steady link begin with.
use Rattle.std.proofs.Common.{ℕ, Bool, true, false, ◌≡◌, ◌<◌, ◌≤◌, ◌^◌, [], ◌∷◌, ◌++◌, length, drop, get_or, Option, Some, None, Result, Ok, Err, refl, sym, ap, subst, arith, ◌∙◌, length-append}
use Rattle.std.specs.Prelude.{◌==◌, ◌&&◌, nat_lt, nat_le, option_map, IfErr}
use Rattle.std.proofs.lemmas.Bool.Decides.{nat_tests}
use Rattle.std.specs.Int.{w32, w64, to_be_bytes, from_be_bytes}
use Rattle.std.proofs.lemmas.Nat.{from_be_bytes-to_be_bytes_4}
use Rattle.base_devices.specs.Links.{LinkState, Modelled}
use Rattle.base_model.specs.Text.{Text}
use Rattle.worker_protocol.specs.Frames.{Frame, framed, spell, part_size}
use Rattle.worker_protocol.specs.Frames.Frame.{Setup, Task, Part, End, Vanished, Unread}
use Rattle.worker_protocol.specs.Takes.{TakesPrefix, Takes, Offers, OffersMany, Begins, FormRefutes, IsShort}
use Rattle.worker_protocol.specs.Receives.{IsReplyFrame, OffersReply, BeginsReply, is_head}
use Rattle.worker_protocol.specs.declared.replies.cause.LostCause.TheVariants.{Device, Ended, Form, Sum}
use Rattle.worker_protocol.specs.declared.replies.cause.ReceiveFault.{ReceiveFault}
use Rattle.worker_protocol.specs.declared.replies.cause.ReceiveFault.TheVariants as faults
use Rattle.worker_protocol.proofs.Prefixes.{takes_joins, offers_after}

both : (a b : Bool) → a ≡ true → b ≡ true → (a && b) ≡ true
both a b p q = rw (p, q) refl

each : (a b : Bool) → (a && b) ≡ true → (a ≡ true) × (b ≡ true)
each true true e = (refl, refl)
each true false e = absurd cc
each false b e = absurd cc

-- a head and a body are a frame
pub takes_frame : (a b c : LinkState) (k n : ℕ) (body : Text) → Takes a b (k ∷ to_be_bytes w32 n) → Takes b c body → length body ≡ n → Takes a c (framed k body)
takes_frame a b c k n body p r e =
    let t : Takes a c (k ∷ (to_be_bytes w32 n ++ body)) = takes_joins a b c (k ∷ to_be_bytes w32 n) body p r in
    subst (λ m. Takes a c (k ∷ (to_be_bytes w32 m ++ body))) (sym e) t

-- a head alone, where the body has no byte
pub takes_head : (a b : LinkState) (k n : ℕ) → Takes a b (k ∷ to_be_bytes w32 n) → n ≡ 0 → Takes a b (framed k [])
takes_head a b k n p e = subst (λ m. Takes a b (k ∷ to_be_bytes w32 m)) e p

-- the type of a frame of a reply, and its body
abbrev pub type_of : Frame → ℕ
type_of (Setup r) = 83
type_of (Task j) = 74
type_of (Part bytes) = 80
type_of (End n sum) = 69
type_of Vanished = 86
type_of Unread = 85

abbrev pub body_of : Frame → Text
body_of (Setup r) = []
body_of (Task j) = []
body_of (Part bytes) = bytes
body_of (End n sum) = to_be_bytes w64 n ++ sum
body_of Vanished = []
body_of Unread = []

spelled : (f : Frame) → IsReplyFrame f → spell f ≡ framed (type_of f) (body_of f)
spelled (Setup r) h = absurd h
spelled (Task j) h = absurd h
spelled (Part bytes) h = refl
spelled (End n sum) h = refl
spelled Vanished h = refl
spelled Unread h = refl

body_short : (f : Frame) → IsReplyFrame f → length (body_of f) < 2 ^ 32
unfolding part_size
body_short (Setup r) h = absurd h
body_short (Task j) h = absurd h
body_short (Part bytes) h = omega (arith, h.1)
body_short (End n sum) h = omega (arith, h.1)
body_short Vanished h = omega arith
body_short Unread h = omega arith

-- what a head of these bytes states
pub record HeadShows (f : Frame) (type n : ℕ) (after : LinkState) : Type 0 where
  pub type_is : type ≡ type_of f
  pub size_is : n ≡ length (body_of f)
  pub body : Offers after (body_of f)

pub head_shows : (old new : LinkState) (type n : ℕ) (f : Frame) → n < 2 ^ 32 → Takes old new (type ∷ to_be_bytes w32 n) → IsReplyFrame f → Offers old (spell f) → HeadShows f type n new
head_shows old new type n f small t fits o =
    let w : Offers old ((type_of f ∷ to_be_bytes w32 (length (body_of f))) ++ body_of f) = subst (Offers old) (spelled f fits) o in
    let h = offers_after old new (type ∷ to_be_bytes w32 n) (type_of f ∷ to_be_bytes w32 (length (body_of f))) (body_of f) t w refl in
    let numbers : to_be_bytes w32 n ≡ to_be_bytes w32 (length (body_of f)) = ap (drop 1) h.0 in
    record {
      type_is = ap (λ l. get_or l 0 0) h.0;
      size_is = sym (from_be_bytes-to_be_bytes_4 n small) ∙ ap (from_be_bytes w32) numbers ∙ from_be_bytes-to_be_bytes_4 (length (body_of f)) (body_short f fits);
      body = h.1;
    }

-- a reply's frame has five bytes at least
pub head_offered : (s : LinkState) → OffersReply s → OffersMany s 5
head_offered s o = (spell o.0, o.2, subst (λ b. 5 ≤ length b) (sym (spelled o.0 o.1)) (omega arith))

-- and then those of its body
pub body_offered : (old new : LinkState) (type n : ℕ) → n < 2 ^ 32 → Takes old new (type ∷ to_be_bytes w32 n) → OffersReply old → OffersMany new n
body_offered old new type n small t o =
    let h = head_shows old new type n o.0 small t o.1 o.2 in
    (body_of o.0, h.body, omega (arith, h.size_is))

-- a reply's frame has such a head
frame_head : (f : Frame) → IsReplyFrame f → is_head (type_of f) (length (body_of f)) ≡ true
frame_head (Setup r) h = absurd h
frame_head (Task j) h = absurd h
frame_head (Part bytes) h = both (nat_lt 0 (length bytes)) (nat_le (length bytes) part_size) (grind (arith, nat_tests, h.0)) (grind (arith, nat_tests, h.1))
frame_head (End k sum) h = ap (λ n. n == 28) (let n : length (to_be_bytes w64 k ++ sum) ≡ 28 = omega (arith, h.1, length-append (to_be_bytes w64 k) sum) in n)
frame_head Vanished h = refl
frame_head Unread h = refl

true_false : (b : Bool) → b ≡ true → b ≡ false → ⊥
true_false true e f = absurd cc
true_false false e f = absurd cc

-- another head is none of a reply
pub head_refuted : (old new : LinkState) (type n : ℕ) → n < 2 ^ 32 → Takes old new (type ∷ to_be_bytes w32 n) → is_head type n ≡ false → ¬ OffersReply old
head_refuted old new type n small t other o =
    let h = head_shows old new type n o.0 small t o.1 o.2 in
    true_false (is_head (type_of o.0) (length (body_of o.0))) (frame_head o.0 o.1) (subst (λ k. is_head (type_of o.0) k ≡ false) h.size_is (subst (λ k. is_head k n ≡ false) h.type_is other))

pub end_head : (type n : ℕ) → type ≡ 69 → is_head type n ≡ true → n ≡ 28
end_head type n t e = let q : is_head 69 n ≡ true = subst (λ k. is_head k n ≡ true) t e in grind (arith, nat_tests, q)

-- ---- links that may fail

-- the same link, known to be steady
steadied : LinkState → LinkState
steadied s = record s { known = option_map (λ (t : Modelled). record t { steady = true }) s.known }

prefix_steadied : (old new : Option Modelled) (bytes : Text) → TakesPrefix old new bytes → TakesPrefix (option_map (λ (t : Modelled). record t { steady = true }) old) (option_map (λ (t : Modelled). record t { steady = true }) new) bytes
prefix_steadied None new bytes h = ap (option_map (λ (t : Modelled). record t { steady = true })) h
prefix_steadied (Some t) new bytes h = (h.0, h.1, ap (option_map (λ (x : Modelled). record x { steady = true })) h.2)

takes_steadied : (old new : LinkState) (bytes : Text) → Takes old new bytes → Takes (steadied old) (steadied new) bytes
unfolding steadied
takes_steadied old new bytes t = record { known = prefix_steadied old.known new.known bytes t.known; given = t.given; jobs = t.jobs; reads = t.reads; faults = t.faults }

offers_steadied : (s : LinkState) (bytes : Text) → Begins s bytes → Offers (steadied s) bytes
unfolding steadied
offers_steadied s bytes b = record { shows = record b.shows { steady = true }; is = ap (option_map (λ (t : Modelled). record t { steady = true })) b.is; steady = refl; rest = b.rest; pending = b.pending }

-- another head is none of a reply
pub form_refuted : (old new : LinkState) (type n : ℕ) → n < 2 ^ 32 → Takes old new (type ∷ to_be_bytes w32 n) → is_head type n ≡ false → ¬ BeginsReply old
form_refuted old new type n small t other b = head_refuted (steadied old) (steadied new) type n small (takes_steadied old new (type ∷ to_be_bytes w32 n) t) other (b.0, b.1, offers_steadied old (spell b.0) b.2)

refutes_short : (e : ReceiveFault) (P : Type 0) → IsShort e → FormRefutes e P
refutes_short (faults.Lost Device) P h = tt
refutes_short (faults.Lost (Ended at)) P h = tt
refutes_short (faults.Lost (Form at)) P h = absurd h
refutes_short (faults.Lost (Sum known found)) P h = absurd h
refutes_short faults.NoMemory P h = tt

pub short_refutes : {A : Type 0} (r : Result A ReceiveFault) (P : Type 0) → IfErr r IsShort → IfErr r (λ e. FormRefutes e P)
short_refutes (Ok x) P h = tt
short_refutes (Err e) P h = refutes_short e P h

-- Receiving a frame, as its bytes come.
use Rattle.std.proofs.Common.{◌≡◌, ◌≢◌, inl, inr, ℕ, ◌+◌, ◌-◌, ◌<◌, ◌≤◌, ◌^◌, Bool, true, false, [], ◌∷◌, ◌++◌, length, take, drop, get_or, min, Option, Some, None, Result, Ok, Err, refl, sym, ◌∙◌, ap, subst, arith}
use Rattle.std.specs.Prelude.{◌==◌, nat_lt, if◌then◌else◌, slice_index}
use Rattle.std.specs.Int.{w32, from_be_bytes}
use Rattle.std.proofs.lemmas.Bool.Decides.{nat_tests}
use Rattle.std.proofs.lemmas.List.{append-nil, take-append-le, length-append, length-drop}
use Rattle.base_devices.specs.Streams.{Gives, IsOver}
use Rattle.base_model.specs.Text.{Text}
use Rattle.worker_protocol.specs.declared.frames.fault.FrameFault.{FrameFault}
use Rattle.worker_protocol.specs.declared.frames.fault.FrameFault.TheVariants as faults
use Rattle.worker_process.specs.declared.serve_fault.ServeFault.{ServeFault}
use Rattle.worker_process.specs.declared.serve_fault.ServeFault.TheVariants.{Form, TooLong, TooMany, Ended, Read, OutputStream, NoMemory}
use Rattle.worker_protocol.specs.Frames.{Frame, IsPrefix, spell}
use Rattle.worker_protocol.specs.Reading.{◌>>=◌, Rest, body_at, is_type, whole, frame_at, IsCutShort}
use Rattle.worker_process.specs.Receiving.{size_known, IsInputFault, StopsAt, IsFullyReceived, FaultAt}
use Rattle.worker_protocol.proofs.Takes.{bind_ok, test_ok}
use Rattle.worker_protocol.proofs.Laws.{frame_again}

-- ---- the length that is given is the frame's

two_tests : (b c : Bool) (r : Result (Frame × ℕ) FrameFault) (y : Frame × ℕ) → (if b then (if c then Err faults.Short else r) else Err (faults.Form 0)) ≡ Ok y → r ≡ Ok y
two_tests true true r y e = absurd cc
two_tests true false r y e = e
two_tests false c r y e = absurd cc

frame_end : (bytes : Text) (x : Frame × ℕ) → frame_at bytes ≡ Ok x → x.1 ≡ size_known bytes
unfolding frame_at
frame_end [] x e = absurd cc
frame_end (type ∷ tail) x e =
    let end = 5 + from_be_bytes w32 (take 4 tail) in
    let rest : Rest = record { left = from_be_bytes w32 (take 4 tail); bytes = drop 4 tail } in
    let r = two_tests (is_type type) (nat_lt (length tail) 4) (body_at type end rest >>= whole end) x e in
    let b = bind_ok (body_at type end rest) (whole end) x r in
    let t = test_ok (b.0.1.left == 0) (faults.Form (end - b.0.1.left)) (b.0.0, end) x b.2 in
    sym (ap (λ (y : Frame × ℕ). y.1) t.1)

prefix_size : (bytes : Text) (f : Frame) (n : ℕ) → IsPrefix bytes f n → n ≡ size_known bytes
prefix_size bytes f n is = is.size_is ∙ frame_end bytes (f, length (spell f)) (ap frame_at is.parts ∙ frame_again f (drop n bytes) is.fits)

known_before : (bytes later : Text) → 5 ≤ length bytes → size_known (bytes ++ later) ≡ size_known bytes
known_before [] later long = absurd (omega arith)
known_before (b ∷ tail) later long = ap (λ (t : Text). 5 + from_be_bytes w32 t) (take-append-le 4 tail later (omega arith))

first_before : (bytes later : Text) → 0 < length bytes → slice_index (bytes ++ later) 0 ≡ slice_index bytes 0
first_before [] later some = absurd (omega arith)
first_before (b ∷ tail) later some = refl

none_at : (t : Text) → length t ≡ 0 → t ≡ []
none_at [] e = refl
none_at (b ∷ t) e = absurd (omega arith)

pub some_bytes : (n : ℕ) → false ≡ (n == 0) → 0 < n
some_bytes n test = grind (arith, nat_tests)

pub first_byte : (bytes : Text) (b : ℕ) → 0 < length bytes → b ≡ get_or bytes 0 b → slice_index bytes 0 ≡ b
first_byte [] b some is = absurd (omega arith)
first_byte (x ∷ bytes) b some is = sym is

-- ---- these bytes were read of what was left

pub record IsRead (bytes rest : Text) (left : Option Text) : Type 0 where
  pub later : Text
  pub left_is : left ≡ Some later
  pub prefix : rest ≡ bytes ++ later

same_text : (a b : Text) → Some b ≡ Some a → a ≡ b
same_text a b e = cc

pub was_read : (total left : Option Text) (bytes rest : Text) → total ≡ Some rest → Gives total bytes left → IsRead bytes rest left
was_read total None bytes rest is gives = cc (gives ∙ is)
was_read total (Some later) bytes rest is gives = record { later = later; left_is = refl; prefix = same_text rest (bytes ++ later) (gives ∙ is) }

pub over_is : (left : Option Text) (later : Text) → left ≡ Some later → IsOver left → later ≡ []
over_is left later is over = subst (λ (o : Option Text). IsOver o) is over

module _ (bytes rest : Text) (left : Option Text) (r : IsRead bytes rest left) where
  pub received_over : length bytes ≡ 0 → IsOver left → (rest ≡ []) × (left ≡ Some [])
  received_over none over =
      let no_later = over_is left r.later r.left_is over in
      (r.prefix ∙ ap (λ (t : Text). t ++ r.later) (none_at bytes none) ∙ no_later, r.left_is ∙ ap (λ (t : Text). Some t) no_later)

  some_rest : 0 < length bytes → 0 < length rest
  some_rest some = omega (arith, some, ap length r.prefix, length-append bytes r.later)

  first_is : 0 < length bytes → slice_index rest 0 ≡ slice_index bytes 0
  first_is some = ap (λ (t : Text). slice_index t 0) r.prefix ∙ first_before bytes r.later some

  pub received_other : (letter start : ℕ) → start < 2 ^ 64 → 0 < length bytes → slice_index bytes 0 ≢ letter → StopsAt letter start rest (Form start)
  received_other letter start small some other = (some_rest some, (0, omega arith, inl ((λ e. other (sym (first_is some) ∙ e)), refl)))

  pub size_same : 5 ≤ length bytes → size_known rest ≡ size_known bytes
  size_same long = ap size_known r.prefix ∙ known_before bytes r.later long

  pub received_frame : (f : Frame) (n : ℕ) → IsPrefix bytes f n → length bytes ≤ size_known rest → IsFullyReceived f (length bytes) rest left
  received_frame f n is most =
      let size = prefix_size bytes f n is in
      let long : 5 ≤ length bytes = omega (arith, size, is.size_is, ap length is.parts, length-append (spell f) (drop n bytes)) in
      let all : length bytes ≤ n = omega (arith, size, size_same long, most) in
      let none : drop n bytes ≡ [] = none_at (drop n bytes) (omega (arith, all, length-drop n bytes)) in
      let same : bytes ≡ spell f = is.parts ∙ ap (λ (t : Text). spell f ++ t) none ∙ append-nil (spell f) in
      record { fits = is.fits; later = r.later; prefix = r.prefix ∙ ap (λ (t : Text). t ++ r.later) same; size_is = ap length same; left_is = r.left_is }

  pub received_fault : (letter start : ℕ) (e : ServeFault) → 0 < length bytes → slice_index bytes 0 ≡ letter → FaultAt start bytes e → StopsAt letter start rest e
  received_fault letter start (Form at) some is fault =
      let f = fault r.later in
      (some_rest some, (f.0, f.1, inr (first_is some ∙ is, ap frame_at r.prefix ∙ f.2)))
  received_fault letter start (TooLong n) some is fault = (first_is some ∙ is, ap frame_at r.prefix ∙ fault r.later)
  received_fault letter start (TooMany limit) some is fault = fault
  received_fault letter start (Ended at) some is fault = absurd fault
  received_fault letter start Read some is fault = tt
  received_fault letter start OutputStream some is fault = fault
  received_fault letter start NoMemory some is fault = tt

  pub received_ended : (letter start at : ℕ) → 0 < length bytes → slice_index bytes 0 ≡ letter → frame_at bytes ≡ Err faults.Short → IsOver left → at ≡ min (start + length bytes) (2 ^ 64 - 1) → StopsAt letter start rest (Ended at)
  received_ended letter start at some is short over at_is =
      let all : rest ≡ bytes = r.prefix ∙ ap (λ (t : Text). bytes ++ t) (over_is left r.later r.left_is over) ∙ append-nil bytes in
      (some_rest some, first_is some ∙ is, ap frame_at all ∙ short, at_is ∙ ap (λ (t : Text). min (start + length t) (2 ^ 64 - 1)) (sym all))

-- after a fault of the input nothing more is sent
pub only_input : (letter start : ℕ) (rest : Text) (e : ServeFault) → IsInputFault e → StopsAt letter start rest e
only_input letter start rest e (inl is) = subst (λ (f : ServeFault). StopsAt letter start rest f) (sym is) tt
only_input letter start rest e (inr is) = subst (λ (f : ServeFault). StopsAt letter start rest f) (sym is) tt

pub cut_then : (bytes : Text) → 5 ≤ length bytes → IsCutShort bytes → length bytes < size_known bytes
cut_then bytes long (inl few) = absurd (omega arith)
cut_then bytes long (inr few) = few

-- a place that differs from the end of 64 bits on is reported so from the true start
pub true_start : (letter start now : ℕ) (rest : Text) (e : ServeFault) → now ≡ min start (2 ^ 64 - 1) → StopsAt letter now rest e → StopsAt letter start rest e
true_start letter start now rest (Form at) is s = (s.0, (s.1.0, omega (arith, is, s.1.1), s.1.2))
true_start letter start now rest (TooLong n) is s = s
true_start letter start now rest (TooMany limit) is s = s
true_start letter start now rest (Ended at) is s = (s.0, s.1, s.2, omega (arith, is, s.3))
true_start letter start now rest Read is s = tt
true_start letter start now rest OutputStream is s = s
true_start letter start now rest NoMemory is s = tt

-- A frame or a fault that was found stays with whatever bytes follow; Short comes only where the frame isn't whole.
use Rattle.std.proofs.Common.{◌≡◌, ◌≢◌, ℕ, zero, suc, ◌+◌, ◌-◌, ◌≤◌, Bool, true, false, [], ◌∷◌, ◌++◌, length, take, drop, Option, Some, None, Result, Ok, Err, refl, sym, ap, subst, arith}
use Rattle.std.specs.Prelude.{◌==◌, nat_lt, nat_le, if◌then◌else◌, slice_index}
use Rattle.std.specs.Str.{is_utf8}
use Rattle.std.specs.Int.{Width, w16, w32, w64, byte_len, from_be_bytes}
use Rattle.std.proofs.lemmas.Bool.Decides.{nat_tests}
use Rattle.std.proofs.lemmas.List.{length-append, take-append-le, drop-append-le}
use Rattle.base_model.specs.Text.{Text}
use Rattle.worker_protocol.specs.declared.frames.fault.FrameFault.{FrameFault}
use Rattle.worker_protocol.specs.declared.frames.fault.FrameFault.TheVariants.{Short, Form, TooLong, NoMemory}
use Rattle.worker_protocol.specs.declared.frames.frames.Frame as rust_frame
use Rattle.worker_protocol.specs.Views.{frame_of}
use Rattle.worker_protocol.specs.Frames.{Frame, part_size, job_limit}
use Rattle.worker_protocol.specs.Frames.Frame.{Setup, Task, Part, End, Vanished, Unread}
use Rattle.worker_protocol.specs.Reading.{◌>>=◌, Gives, Rest, field_at, number_at, chosen, letter_at, text_at, root_value, kind_value, is_item_path, item_at, items_at, job_at, setup_at, end_at, part_at, body_at, is_type, whole, frame_at}

-- what is left, with more bytes after them
abbrev longer : Text → Rest → Rest
longer more rest = record { left = rest.left; bytes = rest.bytes ++ more }

-- the second result is the first, seen by g; of Short nothing is known
abbrev Keeps : {A : Type 0} → (A → A) → Result A FrameFault → Result A FrameFault → Type 0
Keeps g (Ok x) s = s ≡ Ok (g x)
Keeps g (Err Short) s = Unit {0}
Keeps g (Err (Form at)) s = s ≡ Err (Form at)
Keeps g (Err (TooLong n)) s = s ≡ Err (TooLong n)
Keeps g (Err NoMemory) s = s ≡ Err NoMemory

keeps_then : {A B : Type 0} (g : A → A) (h : B → B) (r s : Result A FrameFault) (f : A → Result B FrameFault) → Keeps g r s → ((x : A) → Keeps h (f x) (f (g x))) → Keeps h (r >>= f) (s >>= f)
keeps_then {B = B} g h (Ok x) s f e each = subst (λ (t : Result B FrameFault). Keeps h (f x) t) (sym (ap (λ r. r >>= f) e)) (each x)
keeps_then g h (Err Short) s f e each = tt
keeps_then g h (Err (Form at)) s f e each = ap (λ r. r >>= f) e
keeps_then g h (Err (TooLong n)) s f e each = ap (λ r. r >>= f) e
keeps_then g h (Err NoMemory) s f e each = ap (λ r. r >>= f) e

keeps_test : {A : Type 0} (g : A → A) (b : Bool) (at : ℕ) (x : A) → Keeps g (if b then Ok x else Err (Form at)) (if b then Ok (g x) else Err (Form at))
keeps_test g true at x = refl
keeps_test g false at x = refl

keeps_if : {A : Type 0} (g : A → A) (b : Bool) (r s r' s' : Result A FrameFault) → Keeps g r s → Keeps g r' s' → Keeps g (if b then r else r') (if b then s else s')
keeps_if g true r s r' s' one two = one
keeps_if g false r s r' s' one two = two

-- a value and what is left after it
abbrev after : {A : Type 0} → Text → A × Rest → A × Rest
after more x = (x.0, longer more x.1)

field_cases : (more : Text) (b c c' d d' : Bool) (at : ℕ) (x y : Text × Rest) → (c ≡ false → c' ≡ false) → (d ≡ false → d' ≡ false) → (c ≡ false → y ≡ after more x)
    → Keeps (after more) (if b then (if c then Err Short else Ok x) else (if d then Err Short else Err (Form at))) (if b then (if c' then Err Short else Ok y) else (if d' then Err Short else Err (Form at)))
field_cases more true true c' d d' at x y there end same = tt
field_cases more true false c' d d' at x y there end same = rw (there refl, same refl) refl
field_cases more false c c' true d' at x y there end same = tt
field_cases more false c c' false d' at x y there end same = rw (end refl) refl

no_less : (n : ℕ) (bytes more : Text) → nat_lt (length bytes) n ≡ false → nat_lt (length (bytes ++ more)) n ≡ false
no_less n bytes more e = grind (arith, nat_tests, length-append bytes more)

field_keeps : (more : Text) (size end : ℕ) (rest : Rest) → Keeps (after more) (field_at size end rest) (field_at size end (longer more rest))
field_keeps more size end rest =
    field_cases more (nat_le size rest.left) (nat_lt (length rest.bytes) size) (nat_lt (length (rest.bytes ++ more)) size) (nat_lt (length rest.bytes) rest.left) (nat_lt (length (rest.bytes ++ more)) rest.left) (end - rest.left)
    (take size rest.bytes, record { left = rest.left - size; bytes = drop size rest.bytes })
    (take size (rest.bytes ++ more), record { left = rest.left - size; bytes = drop size (rest.bytes ++ more) })
    (no_less size rest.bytes more) (no_less rest.left rest.bytes more)
    (λ e.
    let long : size ≤ length rest.bytes = grind (arith, nat_tests, e) in
    rw (take-append-le, drop-append-le) refl)

number_keeps : (more : Text) (w : Width) (end : ℕ) (rest : Rest) → Keeps (after more) (number_at w end rest) (number_at w end (longer more rest))
unfolding number_at
number_keeps more w end rest = keeps_then (after more) (after more) (field_at (byte_len w) end rest) (field_at (byte_len w) end (longer more rest)) (λ f. Ok (from_be_bytes w f.0, f.1)) (field_keeps more (byte_len w) end rest) (λ f. refl)

chosen_keeps : {X : Type 0} (more : Text) (at : ℕ) (rest : Rest) (o : Option X) → Keeps (after more) (chosen at rest o) (chosen at (longer more rest) o)
chosen_keeps more at rest None = refl
chosen_keeps more at rest (Some x) = refl

letter_keeps : {X : Type 0} (more : Text) (value : ℕ → Option X) (end : ℕ) (rest : Rest) → Keeps (after more) (letter_at value end rest) (letter_at value end (longer more rest))
unfolding letter_at
letter_keeps more value end rest = keeps_then (after more) (after more) (field_at 1 end rest) (field_at 1 end (longer more rest)) (λ f. chosen (end - rest.left) f.1 (value (slice_index f.0 0))) (field_keeps more 1 end rest) (λ f. chosen_keeps more (end - rest.left) f.1 (value (slice_index f.0 0)))

text_keeps : (more : Text) (good : Text → Bool) (end : ℕ) (rest : Rest) → Keeps (after more) (text_at good end rest) (text_at good end (longer more rest))
unfolding text_at
text_keeps more good end rest =
    keeps_then (after more) (after more) (number_at w16 end rest) (number_at w16 end (longer more rest)) (λ n. field_at n.0 end n.1 >>= λ text. if good text.0 then Ok text else Err (Form (end - n.1.left))) (number_keeps more w16 end rest) (λ n.
    keeps_then (after more) (after more) (field_at n.0 end n.1) (field_at n.0 end (longer more n.1)) (λ text. if good text.0 then Ok text else Err (Form (end - n.1.left))) (field_keeps more n.0 end n.1) (λ text.
    keeps_test (after more) (good text.0) (end - n.1.left) text))

item_keeps : (more : Text) (end : ℕ) (rest : Rest) → Keeps (after more) (item_at end rest) (item_at end (longer more rest))
unfolding item_at
item_keeps more end rest =
    keeps_then (after more) (after more) (letter_at root_value end rest) (letter_at root_value end (longer more rest)) (λ root. text_at (is_item_path root.0) end root.1 >>= λ path. number_at w64 end path.1 >>= λ at. number_at w64 end at.1 >>= λ size. Ok (record { root = root.0; path = path.0; at = at.0; size = size.0 }, size.1)) (letter_keeps more root_value end rest) (λ root.
    keeps_then (after more) (after more) (text_at (is_item_path root.0) end root.1) (text_at (is_item_path root.0) end (longer more root.1)) (λ path. number_at w64 end path.1 >>= λ at. number_at w64 end at.1 >>= λ size. Ok (record { root = root.0; path = path.0; at = at.0; size = size.0 }, size.1)) (text_keeps more (is_item_path root.0) end root.1) (λ path.
    keeps_then (after more) (after more) (number_at w64 end path.1) (number_at w64 end (longer more path.1)) (λ at. number_at w64 end at.1 >>= λ size. Ok (record { root = root.0; path = path.0; at = at.0; size = size.0 }, size.1)) (number_keeps more w64 end path.1) (λ at.
    keeps_then (after more) (after more) (number_at w64 end at.1) (number_at w64 end (longer more at.1)) (λ size. Ok (record { root = root.0; path = path.0; at = at.0; size = size.0 }, size.1)) (number_keeps more w64 end at.1) (λ size. refl))))

items_keep : (more : Text) (n end : ℕ) (rest : Rest) → Keeps (after more) (items_at n end rest) (items_at n end (longer more rest))
unfolding items_at
items_keep more zero end rest = refl
items_keep more (suc n) end rest =
    keeps_then (after more) (after more) (item_at end rest) (item_at end (longer more rest)) (λ first. items_at n end first.1 >>= λ others. Ok (first.0 ∷ others.0, others.1)) (item_keeps more end rest) (λ first.
    keeps_then (after more) (after more) (items_at n end first.1) (items_at n end (longer more first.1)) (λ others. Ok (first.0 ∷ others.0, others.1)) (items_keep more n end first.1) (λ others. refl))

job_keeps : (more : Text) (end : ℕ) (rest : Rest) → Keeps (after more) (job_at end rest) (job_at end (longer more rest))
unfolding job_at
job_keeps more end rest =
    keeps_then (after more) (after more) (letter_at kind_value end rest) (letter_at kind_value end (longer more rest)) (λ kind. number_at w32 end kind.1 >>= λ count. if count.0 == 0 then Err (Form (end - kind.1.left)) else (items_at count.0 end count.1 >>= λ items. Ok (Task (record { kind = kind.0; items = items.0 }), items.1))) (letter_keeps more kind_value end rest) (λ kind.
    keeps_then (after more) (after more) (number_at w32 end kind.1) (number_at w32 end (longer more kind.1)) (λ count. if count.0 == 0 then Err (Form (end - kind.1.left)) else (items_at count.0 end count.1 >>= λ items. Ok (Task (record { kind = kind.0; items = items.0 }), items.1))) (number_keeps more w32 end kind.1) (λ count.
    keeps_if (after more) (count.0 == 0) (Err (Form (end - kind.1.left))) (Err (Form (end - kind.1.left))) _ _ refl (
    keeps_then (after more) (after more) (items_at count.0 end count.1) (items_at count.0 end (longer more count.1)) (λ items. Ok (Task (record { kind = kind.0; items = items.0 }), items.1)) (items_keep more count.0 end count.1) (λ items. refl))))

setup_keeps : (more : Text) (end : ℕ) (rest : Rest) → Keeps (after more) (setup_at end rest) (setup_at end (longer more rest))
unfolding setup_at
setup_keeps more end rest =
    keeps_then (after more) (after more) (text_at is_utf8 end rest) (text_at is_utf8 end (longer more rest)) (λ tree. text_at is_utf8 end tree.1 >>= λ repo. Ok (Setup (record { tree = tree.0; repo = repo.0 }), repo.1)) (text_keeps more is_utf8 end rest) (λ tree.
    keeps_then (after more) (after more) (text_at is_utf8 end tree.1) (text_at is_utf8 end (longer more tree.1)) (λ repo. Ok (Setup (record { tree = tree.0; repo = repo.0 }), repo.1)) (text_keeps more is_utf8 end tree.1) (λ repo. refl))

end_keeps : (more : Text) (end : ℕ) (rest : Rest) → Keeps (after more) (end_at end rest) (end_at end (longer more rest))
unfolding end_at
end_keeps more end rest =
    keeps_then (after more) (after more) (number_at w64 end rest) (number_at w64 end (longer more rest)) (λ n. field_at 20 end n.1 >>= λ sum. Ok (End n.0 sum.0, sum.1)) (number_keeps more w64 end rest) (λ n.
    keeps_then (after more) (after more) (field_at 20 end n.1) (field_at 20 end (longer more n.1)) (λ sum. Ok (End n.0 sum.0, sum.1)) (field_keeps more 20 end n.1) (λ sum. refl))

part_keeps : (more : Text) (end : ℕ) (rest : Rest) → Keeps (after more) (part_at end rest) (part_at end (longer more rest))
unfolding part_at
part_keeps more end rest =
    keeps_if (after more) (rest.left == 0) (Err (Form (end - rest.left))) (Err (Form (end - rest.left))) _ _ refl (
    keeps_then (after more) (after more) (field_at rest.left end rest) (field_at rest.left end (longer more rest)) (λ f. Ok (Part f.0, f.1)) (field_keeps more rest.left end rest) (λ f. refl))

body_keeps : (more : Text) (type end : ℕ) (rest : Rest) → Keeps (after more) (body_at type end rest) (body_at type end (longer more rest))
unfolding body_at
body_keeps more type end rest =
    keeps_if (after more) (type == 83) (setup_at end rest) (setup_at end (longer more rest)) _ _ (setup_keeps more end rest) (
    keeps_if (after more) (type == 74) _ _ _ _ (keeps_if (after more) (nat_lt job_limit rest.left) (Err (TooLong rest.left)) (Err (TooLong rest.left)) (job_at end rest) (job_at end (longer more rest)) refl (job_keeps more end rest)) (
    keeps_if (after more) (type == 80) _ _ _ _ (keeps_if (after more) (nat_lt part_size rest.left) (Err (TooLong rest.left)) (Err (TooLong rest.left)) (part_at end rest) (part_at end (longer more rest)) refl (part_keeps more end rest)) (
    keeps_if (after more) (type == 69) (end_at end rest) (end_at end (longer more rest)) _ _ (end_keeps more end rest) (
    keeps_if (after more) (type == 86) (Ok (Vanished, rest)) (Ok (Vanished, longer more rest)) (Ok (Unread, rest)) (Ok (Unread, longer more rest)) refl refl))))

abbrev same : Frame × ℕ → Frame × ℕ
same x = x

-- the rest of a frame after its length, where the bytes of the length are there or not
head_keeps : (b b' : Bool) (r s : Result (Frame × ℕ) FrameFault) → (b ≡ false → b' ≡ false) → (b ≡ false → Keeps same r s) → Keeps same (if b then Err Short else r) (if b' then Err Short else s)
head_keeps true b' r s there keeps = tt
head_keeps false b' r s there keeps = rw (there refl) (keeps refl)

-- the body d after its length t, then the same bytes with more after it
rest_keeps : (more : Text) (type : ℕ) (t s d e : Text) → s ≡ t → e ≡ d ++ more
    → Keeps same (body_at type (5 + from_be_bytes w32 t) (record { left = from_be_bytes w32 t; bytes = d }) >>= whole (5 + from_be_bytes w32 t)) (body_at type (5 + from_be_bytes w32 s) (record { left = from_be_bytes w32 s; bytes = e }) >>= whole (5 + from_be_bytes w32 s))
rest_keeps more type t s d e length_same bytes_more =
    let end = 5 + from_be_bytes w32 t in
    let rest : Rest = record { left = from_be_bytes w32 t; bytes = d } in
    rw (length_same, bytes_more) (keeps_then (after more) same (body_at type end rest) (body_at type end (longer more rest)) (whole end) (body_keeps more type end rest) (λ x. keeps_test same (x.1.left == 0) (end - x.1.left) (x.0, end)))

pub frame_keeps : (bytes more : Text) → Keeps same (frame_at bytes) (frame_at (bytes ++ more))
unfolding frame_at
frame_keeps [] more = tt
frame_keeps (type ∷ tail) more =
    keeps_if same (is_type type) _ _ (Err (Form 0)) (Err (Form 0)) (
    head_keeps (nat_lt (length tail) 4) (nat_lt (length (tail ++ more)) 4) _ _ (no_less 4 tail more) (λ e.
    let long : 4 ≤ length tail = grind (arith, nat_tests, e) in
    rest_keeps more type (take 4 tail) (take 4 (tail ++ more)) (drop 4 tail) (drop 4 (tail ++ more)) (take-append-le 4 tail more long) (drop-append-le 4 tail more long))) refl

pub is_settled : (bytes more : Text) (r : Result (rust_frame.Frame × ℕ) FrameFault) → Gives (λ x. (frame_of x.0, x.1)) r (frame_at bytes) → r ≢ Err Short → Gives (λ x. (frame_of x.0, x.1)) r (frame_at (bytes ++ more))
is_settled bytes more (Ok x) given found = subst (λ (t : Result (Frame × ℕ) FrameFault). Keeps same t (frame_at (bytes ++ more))) given (frame_keeps bytes more)
is_settled bytes more (Err Short) given found = absurd (found refl)
is_settled bytes more (Err (Form at)) given found = subst (λ (t : Result (Frame × ℕ) FrameFault). Keeps same t (frame_at (bytes ++ more))) given (frame_keeps bytes more)
is_settled bytes more (Err (TooLong n)) given found = subst (λ (t : Result (Frame × ℕ) FrameFault). Keeps same t (frame_at (bytes ++ more))) given (frame_keeps bytes more)
is_settled bytes more (Err NoMemory) given found = tt

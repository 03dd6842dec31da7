-- Short comes only where fewer bytes are there than the body has by its length.
use Rattle.std.proofs.Common.{◌≡◌, ℕ, zero, suc, ◌+◌, ◌-◌, ◌<◌, ◌≤◌, ◌⊎◌, Bool, true, false, [], ◌∷◌, length, take, drop, Option, Some, None, Result, Ok, Err, refl, subst, arith, inl, inr}
use Rattle.std.specs.Prelude.{◌==◌, nat_lt, nat_le, if◌then◌else◌, slice_index, IfErr}
use Rattle.std.specs.Str.{is_utf8}
use Rattle.std.specs.Int.{Width, w16, w32, w64, byte_len, from_be_bytes}
use Rattle.std.proofs.lemmas.Bool.Decides.{nat_tests}
use Rattle.std.proofs.lemmas.List.{length-drop}
use Rattle.base_model.specs.Text.{Text}
use Rattle.worker_protocol.specs.declared.frames.fault.FrameFault.{FrameFault}
use Rattle.worker_protocol.specs.declared.frames.fault.FrameFault.TheVariants.{Short, Form, TooLong, NoMemory}
use Rattle.worker_protocol.specs.declared.frames.frames.Frame as rust_frame
use Rattle.worker_protocol.specs.Views.{frame_of}
use Rattle.worker_protocol.specs.Frames.{Frame, part_size, job_limit}
use Rattle.worker_protocol.specs.Frames.Frame.{Setup, Task, Part, End, Vanished, Unread}
use Rattle.worker_protocol.specs.Reading.{◌>>=◌, Fails, Gives, Rest, field_at, number_at, chosen, letter_at, text_at, root_value, kind_value, is_item_path, item_at, items_at, job_at, setup_at, end_at, part_at, body_at, is_type, whole, frame_at, IsCutShort}

-- fewer bytes are there than are left
record Lacks (rest : Rest) : Type 0 where
  lacks : length rest.bytes < rest.left

-- where reading from here answers Short, or continues where bytes lack, bytes lack here
abbrev CutAt : {A : Type 0} → Rest → Result (A × Rest) FrameFault → Type 0
CutAt rest (Ok x) = Lacks x.1 → Lacks rest
CutAt rest (Err Short) = Lacks rest
CutAt rest (Err (Form at)) = Unit {0}
CutAt rest (Err (TooLong n)) = Unit {0}
CutAt rest (Err NoMemory) = Unit {0}

from_later : {A : Type 0} (a b : Rest) (r : Result (A × Rest) FrameFault) → (Lacks b → Lacks a) → CutAt b r → CutAt a r
from_later a b (Ok x) back cut = λ l. back (cut l)
from_later a b (Err Short) back cut = back cut
from_later a b (Err (Form at)) back cut = tt
from_later a b (Err (TooLong n)) back cut = tt
from_later a b (Err NoMemory) back cut = tt

cut_then : {A B : Type 0} (rest : Rest) (r : Result (A × Rest) FrameFault) (f : A × Rest → Result (B × Rest) FrameFault) → CutAt rest r → ((x : A × Rest) → CutAt x.1 (f x)) → CutAt rest (r >>= f)
cut_then rest (Ok x) f cut each = from_later rest x.1 (f x) cut (each x)
cut_then rest (Err Short) f cut each = cut
cut_then rest (Err (Form at)) f cut each = tt
cut_then rest (Err (TooLong n)) f cut each = tt
cut_then rest (Err NoMemory) f cut each = tt

cut_if : {A : Type 0} (rest : Rest) (b : Bool) (r s : Result (A × Rest) FrameFault) → CutAt rest r → CutAt rest s → CutAt rest (if b then r else s)
cut_if rest true r s one two = one
cut_if rest false r s one two = two

field_cases : (rest : Rest) (b c d : Bool) (at : ℕ) (x : Text × Rest) → (b ≡ true → c ≡ true → Lacks rest) → (b ≡ true → Lacks x.1 → Lacks rest) → (d ≡ true → Lacks rest)
    → CutAt rest (if b then (if c then Err Short else Ok x) else (if d then Err Short else Err (Form at)))
field_cases rest true true d at x short later end = short refl refl
field_cases rest true false d at x short later end = later refl
field_cases rest false c true at x short later end = end refl
field_cases rest false c false at x short later end = tt

field_cut : (size end : ℕ) (rest : Rest) → CutAt rest (field_at size end rest)
field_cut size end rest =
    field_cases rest (nat_le size rest.left) (nat_lt (length rest.bytes) size) (nat_lt (length rest.bytes) rest.left) (end - rest.left) (take size rest.bytes, record { left = rest.left - size; bytes = drop size rest.bytes })
    (λ inside short. record { lacks = grind (arith, nat_tests, inside, short) })
    (λ inside l.
    let fits : size ≤ rest.left = grind (arith, nat_tests, inside) in
    record { lacks = omega (arith, l.lacks, fits, length-drop size rest.bytes) })
    (λ short. record { lacks = grind (arith, nat_tests, short) })

number_cut : (w : Width) (end : ℕ) (rest : Rest) → CutAt rest (number_at w end rest)
unfolding number_at
number_cut w end rest = cut_then rest (field_at (byte_len w) end rest) (λ f. Ok (from_be_bytes w f.0, f.1)) (field_cut (byte_len w) end rest) (λ f l. l)

chosen_cut : {X : Type 0} (at : ℕ) (rest : Rest) (o : Option X) → CutAt rest (chosen at rest o)
chosen_cut at rest None = tt
chosen_cut at rest (Some x) = λ l. l

letter_cut : {X : Type 0} (value : ℕ → Option X) (end : ℕ) (rest : Rest) → CutAt rest (letter_at value end rest)
unfolding letter_at
letter_cut value end rest = cut_then rest (field_at 1 end rest) (λ f. chosen (end - rest.left) f.1 (value (slice_index f.0 0))) (field_cut 1 end rest) (λ f. chosen_cut (end - rest.left) f.1 (value (slice_index f.0 0)))

text_cut : (good : Text → Bool) (end : ℕ) (rest : Rest) → CutAt rest (text_at good end rest)
unfolding text_at
text_cut good end rest =
    cut_then rest (number_at w16 end rest) (λ n. field_at n.0 end n.1 >>= λ text. if good text.0 then Ok text else Err (Form (end - n.1.left))) (number_cut w16 end rest) (λ n.
    cut_then n.1 (field_at n.0 end n.1) (λ text. if good text.0 then Ok text else Err (Form (end - n.1.left))) (field_cut n.0 end n.1) (λ text.
    cut_if text.1 (good text.0) (Ok text) (Err (Form (end - n.1.left))) (λ l. l) tt))

item_cut : (end : ℕ) (rest : Rest) → CutAt rest (item_at end rest)
unfolding item_at
item_cut end rest =
    cut_then rest (letter_at root_value end rest) (λ root. text_at (is_item_path root.0) end root.1 >>= λ path. number_at w64 end path.1 >>= λ at. number_at w64 end at.1 >>= λ size. Ok (record { root = root.0; path = path.0; at = at.0; size = size.0 }, size.1)) (letter_cut root_value end rest) (λ root.
    cut_then root.1 (text_at (is_item_path root.0) end root.1) (λ path. number_at w64 end path.1 >>= λ at. number_at w64 end at.1 >>= λ size. Ok (record { root = root.0; path = path.0; at = at.0; size = size.0 }, size.1)) (text_cut (is_item_path root.0) end root.1) (λ path.
    cut_then path.1 (number_at w64 end path.1) (λ at. number_at w64 end at.1 >>= λ size. Ok (record { root = root.0; path = path.0; at = at.0; size = size.0 }, size.1)) (number_cut w64 end path.1) (λ at.
    cut_then at.1 (number_at w64 end at.1) (λ size. Ok (record { root = root.0; path = path.0; at = at.0; size = size.0 }, size.1)) (number_cut w64 end at.1) (λ size l. l))))

items_cut : (n end : ℕ) (rest : Rest) → CutAt rest (items_at n end rest)
unfolding items_at
items_cut zero end rest = λ l. l
items_cut (suc n) end rest =
    cut_then rest (item_at end rest) (λ first. items_at n end first.1 >>= λ others. Ok (first.0 ∷ others.0, others.1)) (item_cut end rest) (λ first.
    cut_then first.1 (items_at n end first.1) (λ others. Ok (first.0 ∷ others.0, others.1)) (items_cut n end first.1) (λ others l. l))

job_cut : (end : ℕ) (rest : Rest) → CutAt rest (job_at end rest)
unfolding job_at
job_cut end rest =
    cut_then rest (letter_at kind_value end rest) (λ kind. number_at w32 end kind.1 >>= λ count. if count.0 == 0 then Err (Form (end - kind.1.left)) else (items_at count.0 end count.1 >>= λ items. Ok (Task (record { kind = kind.0; items = items.0 }), items.1))) (letter_cut kind_value end rest) (λ kind.
    cut_then kind.1 (number_at w32 end kind.1) (λ count. if count.0 == 0 then Err (Form (end - kind.1.left)) else (items_at count.0 end count.1 >>= λ items. Ok (Task (record { kind = kind.0; items = items.0 }), items.1))) (number_cut w32 end kind.1) (λ count.
    cut_if count.1 (count.0 == 0) (Err (Form (end - kind.1.left))) _ tt (
    cut_then count.1 (items_at count.0 end count.1) (λ items. Ok (Task (record { kind = kind.0; items = items.0 }), items.1)) (items_cut count.0 end count.1) (λ items l. l))))

setup_cut : (end : ℕ) (rest : Rest) → CutAt rest (setup_at end rest)
unfolding setup_at
setup_cut end rest =
    cut_then rest (text_at is_utf8 end rest) (λ tree. text_at is_utf8 end tree.1 >>= λ repo. Ok (Setup (record { tree = tree.0; repo = repo.0 }), repo.1)) (text_cut is_utf8 end rest) (λ tree.
    cut_then tree.1 (text_at is_utf8 end tree.1) (λ repo. Ok (Setup (record { tree = tree.0; repo = repo.0 }), repo.1)) (text_cut is_utf8 end tree.1) (λ repo l. l))

end_cut : (end : ℕ) (rest : Rest) → CutAt rest (end_at end rest)
unfolding end_at
end_cut end rest =
    cut_then rest (number_at w64 end rest) (λ n. field_at 20 end n.1 >>= λ sum. Ok (End n.0 sum.0, sum.1)) (number_cut w64 end rest) (λ n.
    cut_then n.1 (field_at 20 end n.1) (λ sum. Ok (End n.0 sum.0, sum.1)) (field_cut 20 end n.1) (λ sum l. l))

part_cut : (end : ℕ) (rest : Rest) → CutAt rest (part_at end rest)
unfolding part_at
part_cut end rest =
    cut_if rest (rest.left == 0) (Err (Form (end - rest.left))) _ tt (
    cut_then rest (field_at rest.left end rest) (λ f. Ok (Part f.0, f.1)) (field_cut rest.left end rest) (λ f l. l))

body_cut : (type end : ℕ) (rest : Rest) → CutAt rest (body_at type end rest)
unfolding body_at
body_cut type end rest =
    cut_if rest (type == 83) (setup_at end rest) _ (setup_cut end rest) (
    cut_if rest (type == 74) _ _ (cut_if rest (nat_lt job_limit rest.left) (Err (TooLong rest.left)) (job_at end rest) tt (job_cut end rest)) (
    cut_if rest (type == 80) _ _ (cut_if rest (nat_lt part_size rest.left) (Err (TooLong rest.left)) (part_at end rest) tt (part_cut end rest)) (
    cut_if rest (type == 69) (end_at end rest) _ (end_cut end rest) (
    cut_if rest (type == 86) (Ok (Vanished, rest)) (Ok (Unread, rest)) (λ l. l) (λ l. l)))))

-- the test of the rest never answers Short
not_short : (b : Bool) (x : Frame × ℕ) (at : ℕ) → (if b then Ok x else Err (Form at)) ≡ Err Short → ⊥
not_short true x at e = cc
not_short false x at e = cc

whole_cut : (end : ℕ) (rest : Rest) (r : Result (Frame × Rest) FrameFault) → CutAt rest r → (r >>= whole end) ≡ Err Short → Lacks rest
whole_cut end rest (Ok x) cut e = absurd (not_short (x.1.left == 0) (x.0, end) (end - x.1.left) e)
whole_cut end rest (Err Short) cut e = cut
whole_cut end rest (Err (Form at)) cut e = absurd cc
whole_cut end rest (Err (TooLong n)) cut e = absurd cc
whole_cut end rest (Err NoMemory) cut e = absurd cc

frame_cases : (b c : Bool) (r : Result (Frame × ℕ) FrameFault) (P Q : Type 0) → (c ≡ true → P) → (c ≡ false → r ≡ Err Short → Q) → (if b then (if c then Err Short else r) else Err (Form 0)) ≡ Err Short → P ⊎ Q
frame_cases true true r P Q one two e = inl (one refl)
frame_cases true false r P Q one two e = inr (two refl e)
frame_cases false c r P Q one two e = absurd cc

pub frame_cut : (bytes : Text) → frame_at bytes ≡ Err Short → IsCutShort bytes
unfolding frame_at
frame_cut [] e = inl (omega arith)
frame_cut (type ∷ tail) e =
    let known = from_be_bytes w32 (take 4 tail) in
    let end = 5 + known in
    let rest : Rest = record { left = known; bytes = drop 4 tail } in
    frame_cases (is_type type) (nat_lt (length tail) 4) (body_at type end rest >>= whole end) (length (type ∷ tail) < 5) (length (type ∷ tail) < 5 + known)
    (λ c.
    let few : length tail < 4 = grind (arith, nat_tests, c) in
    omega (arith, few))
    (λ c r.
    let l = whole_cut end rest (body_at type end rest) (body_cut type end rest) r in
    omega (arith, l.lacks, length-drop 4 tail)) e

pub is_short : (bytes : Text) (r : Result (rust_frame.Frame × ℕ) FrameFault) → Gives (λ x. (frame_of x.0, x.1)) r (frame_at bytes) → IfErr r (λ e. e ≡ Short → IsCutShort bytes)
is_short bytes (Ok x) given = tt
is_short bytes (Err e) given = λ short. frame_cut bytes (subst (λ (d : FrameFault). Fails d (frame_at bytes)) short given)

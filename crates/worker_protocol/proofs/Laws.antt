-- What is spelled so is read, and what is read is spelled so.
use Rattle.std.proofs.Common.{◌≡◌, ℕ, suc, ◌+◌, ◌-◌, ◌^◌, ◌<◌, ◌≤◌, Bool, true, false, [], ◌∷◌, ◌++◌, length, take, drop, Result, Ok, Err, refl, sym, ap, subst, ◌∙◌, append_assoc, arith}
use Rattle.std.specs.Prelude.{◌==◌, nat_lt, if◌then◌else◌}
use Rattle.std.specs.Str.{is_utf8}
use Rattle.std.specs.Int.{w16, w32, w64, from_be_bytes, to_be_bytes}
use Rattle.std.specs.Prelude.{IfOk}
use Rattle.std.proofs.lemmas.Bool.Decides.{nat_tests}
use Rattle.std.proofs.lemmas.Str.{IsUtf8-from_is_utf8, is_utf8-from_IsUtf8}
use Rattle.std.proofs.lemmas.List.{take_at, drop_at, take-append-drop, length-append, length-take}
use Rattle.base_model.specs.Text.{Text}
use Rattle.worker_protocol.specs.declared.frames.fault.FrameFault.{FrameFault}
use Rattle.worker_protocol.specs.declared.frames.fault.FrameFault.TheVariants.{Short, Form, TooLong}
use Rattle.worker_protocol.specs.Frames.{Roots, Frame, framed, short_text, spell, job_bytes, FitsRoots, FitsFrame, IsPrefix, part_size, job_limit}
use Rattle.worker_protocol.specs.Frames.Frame.{Setup, Task, Part, End, Vanished, Unread}
use Rattle.worker_protocol.specs.declared.frames.frames.Frame as rust_frame
use Rattle.worker_protocol.specs.Views.{frame_of}
use Rattle.worker_protocol.specs.Reading.{◌>>=◌, Gives, Rest, field_at, number_at, text_at, setup_at, end_at, part_at, job_at, body_at, is_type, whole, frame_at}
use Rattle.worker_protocol.proofs.Sizes.{job_short, part_short}
use Rattle.worker_protocol.proofs.Takes.{IsBytes, IsBytes-drop, IsBytes-take, bind_ok, test_ok, done, ok_is, Takes, takes_then, takes_none, takes_apart, past, bytes_after, wide32, wide64, field_takes, field_again, number_takes, number_again, text_takes, text_again}
use Rattle.worker_protocol.proofs.Items.{some_ok, job_takes, job_again}

-- a body of this type was read as this frame, whole where nothing is left
pub record IsBody (type : ℕ) (rest : Rest) (x : Frame × Rest) : Type 0 where
  pub body : Text
  pub takes : Takes rest body x.1
  pub spelled : spell x.0 ≡ framed type body
  pub fits : FitsFrame x.0

setup_takes : (end : ℕ) (rest : Rest) (x : Frame × Rest) → IsBytes rest.bytes → setup_at end rest ≡ Ok x → IsBody 83 rest x
unfolding setup_at
setup_takes end rest x fits e =
    let a = bind_ok (text_at is_utf8 end rest) (λ tree. text_at is_utf8 end tree.1 >>= λ repo. Ok (Setup (record { tree = tree.0; repo = repo.0 }), repo.1)) x e in
    let tree = a.0 in
    let b = bind_ok (text_at is_utf8 end tree.1) (λ repo. Ok (Setup (record { tree = tree.0; repo = repo.0 }), repo.1)) x a.2 in
    let repo = b.0 in
    let t = text_takes is_utf8 end rest tree fits a.1 in
    let r = text_takes is_utf8 end tree.1 repo (bytes_after rest tree.1 (short_text tree.0) t.0 fits) b.1 in
    let roots : Roots = record { tree = tree.0; repo = repo.0 } in
    let made : Frame × Rest = (Setup roots, repo.1) in
    let keeps : FitsRoots roots = record {
      tree = record { utf8 = IsUtf8-from_is_utf8 tree.0 t.1; short = t.2 };
      repo = record { utf8 = IsUtf8-from_is_utf8 repo.0 r.1; short = r.2 };
    } in
    let all : IsBody 83 rest made = record {
      body = short_text tree.0 ++ short_text repo.0;
      takes = takes_then rest tree.1 repo.1 (short_text tree.0) (short_text repo.0) t.0 r.0;
      spelled = refl;
      fits = keeps;
    } in
    subst (λ (y : Frame × Rest). IsBody 83 rest y) {x = made} {y = x} (ok_is made x b.2) all

end_takes : (end : ℕ) (rest : Rest) (x : Frame × Rest) → IsBytes rest.bytes → end_at end rest ≡ Ok x → IsBody 69 rest x
unfolding end_at
end_takes end rest x fits e =
    let a = bind_ok (number_at w64 end rest) (λ n. field_at 20 end n.1 >>= λ sum. Ok (End n.0 sum.0, sum.1)) x e in
    let n = a.0 in
    let b = bind_ok (field_at 20 end n.1) (λ sum. Ok (End n.0 sum.0, sum.1)) x a.2 in
    let sum = b.0 in
    let c = number_takes w64 (2 ^ 64) wide64 end rest n fits a.1 in
    let d = field_takes 20 end n.1 sum b.1 in
    let made : Frame × Rest = (End n.0 sum.0, sum.1) in
    let all : IsBody 69 rest made = record {
      body = to_be_bytes w64 n.0 ++ sum.0;
      takes = takes_then rest n.1 sum.1 (to_be_bytes w64 n.0) sum.0 c.0 d.0;
      spelled = refl;
      fits = (c.1, d.1);
    } in
    subst (λ (y : Frame × Rest). IsBody 69 rest y) {x = made} {y = x} (ok_is made x b.2) all

part_takes : (end : ℕ) (rest : Rest) (x : Frame × Rest) → rest.left ≤ part_size → part_at end rest ≡ Ok x → IsBody 80 rest x
unfolding part_at
part_takes end rest x small e =
    let g = some_ok (rest.left == 0) (Form (end - rest.left)) (field_at rest.left end rest >>= λ f. Ok (Part f.0, f.1)) x e in
    let b = bind_ok (field_at rest.left end rest) (λ f. Ok (Part f.0, f.1)) x g.1 in
    let f = b.0 in
    let d = field_takes rest.left end rest f b.1 in
    let some : 0 < rest.left = grind (arith, nat_tests, g.0) in
    let made : Frame × Rest = (Part f.0, f.1) in
    let all : IsBody 80 rest made = record { body = f.0; takes = d.0; spelled = refl; fits = (omega (arith, some, d.1), omega (arith, small, d.1)) } in
    subst (λ (y : Frame × Rest). IsBody 80 rest y) {x = made} {y = x} (ok_is made x b.2) all

task_takes : (end : ℕ) (rest : Rest) (x : Frame × Rest) → IsBytes rest.bytes → rest.left ≤ job_limit → job_at end rest ≡ Ok x → IsBody 74 rest x
task_takes end rest x fits small e =
    let j = job_takes end rest x fits e in
    record { body = job_bytes j.job; takes = j.takes; spelled = ap spell j.is; fits = subst (λ (f : Frame). FitsFrame f) (sym j.is) (j.fits small) }

-- a body without fields
empty_takes : (type : ℕ) (frame : Frame) (rest : Rest) (x : Frame × Rest) → spell frame ≡ framed type [] → FitsFrame frame → done (frame, rest) ≡ Ok x → IsBody type rest x
empty_takes type frame rest x spelled fits e =
    let made : Frame × Rest = (frame, rest) in
    let all : IsBody type rest made = record { body = []; takes = takes_none rest; spelled = spelled; fits = fits } in
    subst (λ (y : Frame × Rest). IsBody type rest y) {x = made} {y = x} (ok_is made x e) all

-- one of two answers, by a test on the type
by_type : {A : Type 0} (b : Bool) (r s : Result A FrameFault) (y : A) (P : Type 0) → (if b then r else s) ≡ Ok y → (b ≡ true → r ≡ Ok y → P) → (b ≡ false → s ≡ Ok y → P) → P
by_type true r s y P e first second = first refl e
by_type false r s y P e first second = second refl e

same_type : (a b : ℕ) → (a == b) ≡ true → a ≡ b
same_type a b e = grind (arith, nat_tests)

last_type : (t : ℕ) → is_type t ≡ true → (t == 83) ≡ false → (t == 74) ≡ false → (t == 80) ≡ false → (t == 69) ≡ false → (t == 86) ≡ false → 85 ≡ t
last_type t e a b c d f = grind (arith, nat_tests)

body_takes : (type end : ℕ) (rest : Rest) (x : Frame × Rest) → is_type type ≡ true → IsBytes rest.bytes → body_at type end rest ≡ Ok x → IsBody type rest x
unfolding body_at
body_takes type end rest x is fits e =
    let to = λ (t : ℕ) (p : t ≡ type) (b : IsBody t rest x). subst (λ (k : ℕ). IsBody k rest x) p b in
    by_type (type == 83) _ _ x (IsBody type rest x) e (λ t r. to 83 (sym (same_type type 83 t)) (setup_takes end rest x fits r)) (λ n83 e.
    by_type (type == 74) _ _ x (IsBody type rest x) e (λ t r.
    let g = some_ok (nat_lt job_limit rest.left) (TooLong rest.left) (job_at end rest) x r in
    let small : rest.left ≤ job_limit = grind (arith, nat_tests, g.0) in
    to 74 (sym (same_type type 74 t)) (task_takes end rest x fits small g.1)) (λ n74 e.
    by_type (type == 80) _ _ x (IsBody type rest x) e (λ t r.
    let g = some_ok (nat_lt part_size rest.left) (TooLong rest.left) (part_at end rest) x r in
    let small : rest.left ≤ part_size = grind (arith, nat_tests, g.0) in
    to 80 (sym (same_type type 80 t)) (part_takes end rest x small g.1)) (λ n80 e.
    by_type (type == 69) _ _ x (IsBody type rest x) e (λ t r. to 69 (sym (same_type type 69 t)) (end_takes end rest x fits r)) (λ n69 e.
    by_type (type == 86) _ _ x (IsBody type rest x) e (λ t r. to 86 (sym (same_type type 86 t)) (empty_takes 86 Vanished rest x refl tt r)) (λ n86 e.
    to 85 (last_type type is n83 n74 n80 n69 n86) (empty_takes 85 Unread rest x refl tt e))))))

-- ---- a whole frame

length_framed : (type : ℕ) (body : Text) → length (framed type body) ≡ 5 + length body
length_framed type body = omega (arith, length-append (to_be_bytes w32 (length body)) body, wide32.len (length body))

spelled_so : (type : ℕ) (tail : Text) (f : Frame) (after : Rest) → IsBytes tail → 4 ≤ length tail
    → IsBody type (record { left = from_be_bytes w32 (take 4 tail); bytes = drop 4 tail }) (f, after) → after.left ≡ 0
    → IsPrefix (type ∷ tail) f (5 + from_be_bytes w32 (take 4 tail))
spelled_so type tail f after fits long b none =
    let n = from_be_bytes w32 (take 4 tail) in
    let head : to_be_bytes w32 n ≡ take 4 tail = wide32.back (take 4 tail) (omega (arith, length-take 4 tail)) (IsBytes-take 4 tail fits) in
    let len : n ≡ length b.body = omega (arith, b.takes.left, none) in
    let tail_is : tail ≡ (to_be_bytes w32 (length b.body) ++ b.body) ++ after.bytes =
    sym (take-append-drop 4 tail) ∙ ap (λ (t : Text). t ++ drop 4 tail) (sym head) ∙ ap (λ (t : Text). to_be_bytes w32 n ++ t) b.takes.parts ∙ ap (λ (k : ℕ). to_be_bytes w32 k ++ (b.body ++ after.bytes)) len ∙ sym (append_assoc (to_be_bytes w32 (length b.body)) b.body after.bytes) in
    let bytes_are : type ∷ tail ≡ spell f ++ after.bytes = ap (λ (t : Text). type ∷ t) tail_is ∙ ap (λ (t : Text). t ++ after.bytes) (sym b.spelled) in
    let total : 5 + n ≡ length (spell f) = ap (λ (k : ℕ). 5 + k) len ∙ sym (length_framed type b.body) ∙ ap length (sym b.spelled) in
    let rest_is : drop (5 + n) (type ∷ tail) ≡ after.bytes = ap (drop (5 + n)) bytes_are ∙ drop_at (spell f) after.bytes (5 + n) (sym total) in
    record { parts = bytes_are ∙ ap (λ (t : Text). spell f ++ t) (sym rest_is); size_is = total; fits = b.fits }

pub frame_takes : (bytes : Text) (x : Frame × ℕ) → IsBytes bytes → frame_at bytes ≡ Ok x → IsPrefix bytes x.0 x.1
unfolding frame_at
frame_takes [] x fits e = absurd cc
frame_takes (type ∷ tail) x fits e =
    let end = 5 + from_be_bytes w32 (take 4 tail) in
    let rest : Rest = record { left = from_be_bytes w32 (take 4 tail); bytes = drop 4 tail } in
    let t = by_type (is_type type) _ _ x ((is_type type ≡ true) × ((if nat_lt (length tail) 4 then Err Short else (body_at type end rest >>= whole end)) ≡ Ok x)) e (λ is r. (is, r)) (λ not r. absurd cc) in
    let g = some_ok (nat_lt (length tail) 4) Short (body_at type end rest >>= whole end) x t.1 in
    let b = bind_ok (body_at type end rest) (whole end) x g.1 in
    let f = b.0.0 in
    let after = b.0.1 in
    let w = test_ok (after.left == 0) (Form (end - after.left)) (f, end) x b.2 in
    let tail_fits : IsBytes tail = λ i. fits (suc i) in
    let long : 4 ≤ length tail = grind (arith, nat_tests, g.0) in
    let none : after.left ≡ 0 = grind (arith, nat_tests, w.0) in
    let body = body_takes type end rest (f, after) t.0 (IsBytes-drop 4 tail tail_fits) b.1 in
    subst (λ (y : Frame × ℕ). IsPrefix (type ∷ tail) y.0 y.1) w.1 (spelled_so type tail f after tail_fits long body none)

-- ---- read again

frame_step : (type : ℕ) (tail : Text) (n : ℕ) (bytes : Text) → is_type type ≡ true → nat_lt (length tail) 4 ≡ false → from_be_bytes w32 (take 4 tail) ≡ n → drop 4 tail ≡ bytes
    → frame_at (type ∷ tail) ≡ (body_at type (5 + n) (record { left = n; bytes = bytes }) >>= whole (5 + n))
unfolding frame_at
frame_step type tail n bytes is long number rest = rw (is, long, number, rest) refl

abbrev full : Text → Text → Rest
full body more = record { left = length body; bytes = body ++ more }

abbrev over : Text → Rest
over more = record { left = 0; bytes = more }

takes_full : (body more : Text) → Takes (full body more) body (over more)
takes_full body more = record { parts = refl; left = omega arith }

-- a frame whose body is read whole is read
read_so : (type : ℕ) (body more : Text) (f : Frame) → is_type type ≡ true → length body < 2 ^ 32 → ((end : ℕ) → body_at type end (full body more) ≡ Ok (f, over more))
    → frame_at (framed type body ++ more) ≡ Ok (f, length (framed type body))
read_so type body more f is short reads =
    let n = length body in
    let head = to_be_bytes w32 n in
    let apart : (head ++ body) ++ more ≡ head ++ (body ++ more) = append_assoc head body more in
    let len : length head ≡ 4 = wide32.len n in
    let long : nat_lt (length ((head ++ body) ++ more)) 4 ≡ false = grind (arith, nat_tests, ap length apart, length-append head (body ++ more), len) in
    let number : from_be_bytes w32 (take 4 ((head ++ body) ++ more)) ≡ n = ap (λ (t : Text). from_be_bytes w32 (take 4 t)) apart ∙ ap (from_be_bytes w32) (take_at head (body ++ more) 4 len) ∙ wide32.again n short in
    let rest : drop 4 ((head ++ body) ++ more) ≡ body ++ more = ap (drop 4) apart ∙ drop_at head (body ++ more) 4 len in
    frame_step type ((head ++ body) ++ more) n (body ++ more) is long number rest
    ∙ ap (λ (r : Result (Frame × Rest) FrameFault). r >>= whole (5 + n)) (reads (5 + n))
    ∙ ap (λ (k : ℕ). Ok (f, k)) (sym (length_framed type body))

setup_again : (roots : Roots) (more : Text) (end : ℕ) → FitsRoots roots → setup_at end (full (short_text roots.tree ++ short_text roots.repo) more) ≡ Ok (Setup roots, over more)
unfolding setup_at
setup_again roots more end fits =
    let body = short_text roots.tree ++ short_text roots.repo in
    let a = takes_apart (full body more) (over more) (short_text roots.tree) (short_text roots.repo) (takes_full body more) in
    let mid = past (length (short_text roots.tree)) (full body more) in
    rw (
      text_again is_utf8 end (full body more) mid roots.tree a.0 (is_utf8-from_IsUtf8 roots.tree fits.tree.utf8) fits.tree.short,
      text_again is_utf8 end mid (over more) roots.repo a.1 (is_utf8-from_IsUtf8 roots.repo fits.repo.utf8) fits.repo.short,
    ) refl

end_again : (n : ℕ) (sum more : Text) (end : ℕ) → n < 2 ^ 64 → length sum ≡ 20 → end_at end (full (to_be_bytes w64 n ++ sum) more) ≡ Ok (End n sum, over more)
unfolding end_at
end_again n sum more end lt len =
    let body = to_be_bytes w64 n ++ sum in
    let a = takes_apart (full body more) (over more) (to_be_bytes w64 n) sum (takes_full body more) in
    let mid = past (length (to_be_bytes w64 n)) (full body more) in
    rw (number_again w64 (2 ^ 64) wide64 end (full body more) mid n a.0 lt, field_again 20 end mid (over more) sum a.1 len) refl

part_again : (body more : Text) (end : ℕ) → 0 < length body → part_at end (full body more) ≡ Ok (Part body, over more)
unfolding part_at
part_again body more end some =
    let not_none : (length body == 0) ≡ false = grind (arith, nat_tests, some) in
    rw (not_none, field_again (length body) end (full body more) (over more) body (takes_full body more) refl) refl

small_body : (b : Bool) (length : ℕ) (r : Result (Frame × Rest) FrameFault) → b ≡ false → (if b then Err (TooLong length) else r) ≡ r
small_body b length r e = rw e refl

pub frame_again : (f : Frame) (more : Text) → FitsFrame f → frame_at (spell f ++ more) ≡ Ok (f, length (spell f))
unfolding body_at
frame_again (Setup r) more fits =
    let a = short_text r.tree in
    let b = short_text r.repo in
    let short : length (a ++ b) < 2 ^ 32 = omega (arith, length-append a b, length-append (to_be_bytes w16 (length r.tree)) r.tree, length-append (to_be_bytes w16 (length r.repo)) r.repo, fits.tree.short, fits.repo.short) in
    read_so 83 (a ++ b) more (Setup r) refl short (λ end. setup_again r more end fits)
frame_again (Task j) more fits =
    let body = job_bytes j in
    let limit : nat_lt job_limit (length body) ≡ false = grind (arith, nat_tests, fits.small) in
    read_so 74 body more (Task j) refl (job_short (length body) fits.small) (λ end. small_body _ (length body) (job_at end (full body more)) limit ∙ job_again end (full body more) (over more) j (takes_full body more) fits)
frame_again (Part body) more fits =
    let limit : nat_lt part_size (length body) ≡ false = grind (arith, nat_tests, fits.1) in
    read_so 80 body more (Part body) refl (part_short (length body) fits.1) (λ end. small_body _ (length body) (part_at end (full body more)) limit ∙ part_again body more end fits.0)
frame_again (End n sum) more fits =
    let short : length (to_be_bytes w64 n ++ sum) < 2 ^ 32 = omega (arith, length-append (to_be_bytes w64 n) sum, wide64.len n, fits.1) in
    read_so 69 (to_be_bytes w64 n ++ sum) more (End n sum) refl short (λ end. end_again n sum more end fits.0 fits.1)
frame_again Vanished more fits = read_so 86 [] more Vanished refl (omega arith) (λ end. refl)
frame_again Unread more fits = read_so 85 [] more Unread refl (omega arith) (λ end. refl)

-- two frames that keep the rules and share their first bytes are one
pub spelled_once : (f g : Frame) (more others : Text) → FitsFrame f → FitsFrame g → spell f ++ more ≡ spell g ++ others → f ≡ g
spelled_once f g more others fits_f fits_g e =
    let read : done (f, length (spell f)) ≡ done (g, length (spell g)) = sym (frame_again f more fits_f) ∙ ap frame_at e ∙ frame_again g others fits_g in
    ap (λ (x : Frame × ℕ). x.0) (ok_is (f, length (spell f)) (g, length (spell g)) read)

pub is_found : (bytes : Text) (r : Result (rust_frame.Frame × ℕ) FrameFault) → IsBytes bytes → Gives (λ x. (frame_of x.0, x.1)) r (frame_at bytes) → IfOk r (λ x. IsPrefix bytes (frame_of x.0) x.1)
is_found bytes (Ok x) fits given = frame_takes bytes (frame_of x.0, x.1) fits given
is_found bytes (Err e) fits given = tt

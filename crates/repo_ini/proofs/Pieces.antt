-- The pieces of an info text, and what the reader finds in them.
use Rattle.std.proofs.Common.{◌≡◌, ℕ, zero, suc, ◌+◌, ◌-◌, ◌*◌, ◌<◌, Bool, true, false, ◌&&◌, cond, List, [], ◌∷◌, ◌++◌, length, take, drop, get_or, slice_index, bytes_eq, Option, Some, None, option_map, if◌then◌else◌, refl, sym, ap, ap₂, ◌∙◌, arith, ◌==◌, nat_lt, lt-ltb, All, length-append}
use Rattle.std.specs.List.{position_or_len}
use Rattle.std.proofs.lemmas.Bool.{and_parts, eqb-true, ltb-true, eq-eqb}
use Rattle.std.proofs.lemmas.List.{take_at, drop_at, drop-drop, length-drop, get_or_at, get_or-drop, get_or_append_left, take-append-drop}
use Rattle.std.proofs.lemmas.List.Sums.{split_at_first, passes_at_first, position_or_len_is}
use Rattle.std.proofs.lemmas.List.Elements.{All-get_or}
use Rattle.std.proofs.lemmas.Option.{cond_some, some_pair_parts}
use Rattle.std.proofs.lemmas.Slice.Eq.{bytes_eq-Decides}
use Rattle.serde_json.specs.Data.{Data}
use Rattle.serde_json.specs.Written.{compact_text}
use Rattle.base_text.specs.Sum.{IsSum, sum_text, read_sum}
use Rattle.base_text.proofs.Sums.{read_sum-is, read-sum_text, length-sum_text}
use Rattle.repo_ini.specs.Reading.{cut_at, name_in, sum_in, check_start}

abbrev pub name_piece : List ℕ → List ℕ
name_piece name = 91 ∷ (name ++ 93 ∷ [])

abbrev pub key_piece : List ℕ × Data → List ℕ
key_piece k = k.0 ++ 61 ∷ compact_text k.1

unfoldable pub sum_piece : List ℕ → List ℕ
sum_piece known = check_start ++ (sum_text known ++ 34 ∷ [])

-- a list is all but its last, and its last
last_split : (q : List ℕ) (n : ℕ) → length q ≡ suc n → q ≡ take n q ++ get_or q n 0 ∷ []
last_split [] n h = absurd (omega arith)
last_split (x ∷ []) zero h = refl
last_split (x ∷ []) (suc n) h = absurd (omega arith)
last_split (x ∷ y ∷ q) zero h = absurd (omega arith)
last_split (x ∷ y ∷ q) (suc n) h = ap (λ l. x ∷ l) (last_split (y ∷ q) n (omega arith))

-- ---- `[name]`

name_found : (p n : List ℕ) → 1 < length p → slice_index p 0 ≡ 91 → slice_index p (length p - 1) ≡ 93 → take (length p - 2) (drop 1 p) ≡ n → p ≡ name_piece n
name_found [] n len first last h = absurd (omega arith)
name_found (x ∷ []) n len first last h = absurd (omega arith)
name_found (x ∷ y ∷ q) n len first last h =
    let count : length (y ∷ q) ≡ suc (length q) = omega arith in
    let low : suc (suc (length q)) - 2 ≡ length q = omega arith in
    let high : suc (suc (length q)) - 1 ≡ suc (length q) = omega arith in
    let end : get_or (y ∷ q) (length q) 0 ≡ 93 = rw high at last in
    let prefix : take (length q) (y ∷ q) ≡ n = rw low at h in
    ap₂ (λ (a : ℕ) (l : List ℕ). a ∷ l) first (last_split (y ∷ q) (length q) count ∙ ap₂ (λ (a : List ℕ) (b : ℕ). a ++ b ∷ []) prefix end)

pub name_in-is : (p n : List ℕ) → name_in p ≡ Some n → p ≡ name_piece n
name_in-is p n h =
    let c = cond_some (nat_lt 1 (length p) && (slice_index p 0 == 91) && (slice_index p (length p - 1) == 93)) (take (length p - 2) (drop 1 p)) n h in
    let a = and_parts (nat_lt 1 (length p) && (slice_index p 0 == 91)) (slice_index p (length p - 1) == 93) c.0 in
    let b = and_parts (nat_lt 1 (length p)) (slice_index p 0 == 91) a.0 in
    name_found p n (ltb-true _ _ b.0) (eqb-true _ _ b.1) (eqb-true _ _ a.1) c.1

pub name_in-name_piece : (n : List ℕ) → name_in (name_piece n) ≡ Some n
name_in-name_piece n =
    let len = length-append n (93 ∷ []) in
    let more : 1 < suc (length (n ++ 93 ∷ [])) = omega arith in
    let last : suc (length (n ++ 93 ∷ [])) - 1 ≡ suc (length n) = omega arith in
    let low : suc (length (n ++ 93 ∷ [])) - 2 ≡ length n = omega arith in
    rw (lt-ltb _ _ more, last, low, get_or_at n 93 [] 0 (length n) refl, take_at n (93 ∷ []) (length n) refl) refl

-- ---- the sum

guard : (b : Bool) (o : Option (List ℕ)) (x : List ℕ) → (if b then o else None) ≡ Some x → (b ≡ true) × (o ≡ Some x)
guard true o x h = (refl, h)
guard false o x h = cc h

pub sum_in-is : (p known : List ℕ) → sum_in p ≡ Some known → (p ≡ sum_piece known) × IsSum known
unfolding sum_piece
sum_in-is p known h =
    let b1 = length p == 60 in
    let b2 = bytes_eq (take 19 p) check_start in
    let b3 = slice_index p 59 == 34 in
    let split = guard (b1 && b2 && b3) (read_sum (take 40 (drop 19 p))) known h in
    let a = and_parts (b1 && b2) b3 split.0 in
    let b = and_parts b1 b2 a.0 in
    let len = eqb-true (length p) 60 b.0 in
    let start = (bytes_eq-Decides (take 19 p) check_start).0 b.1 in
    let end = eqb-true (slice_index p 59) 34 a.1 in
    let r = read_sum-is (take 40 (drop 19 p)) known split.1 in
    let back : length (drop 19 p) ≡ suc 40 = length-drop 19 p ∙ ap (λ n. n - 19) len in
    let last : get_or (drop 19 p) 40 0 ≡ 34 = get_or-drop 19 p 40 0 ∙ end in
    (sym (take-append-drop 19 p) ∙ ap₂ (λ (x y : List ℕ). x ++ y) start (last_split (drop 19 p) 40 back ∙ ap₂ (λ (x : List ℕ) (y : ℕ). x ++ y ∷ []) r.0 last), r.1)

sum_at : (x digits known : List ℕ) → length x ≡ 41 → get_or x 40 0 ≡ 34 → take 40 x ≡ digits → read_sum digits ≡ Some known → sum_in (check_start ++ x) ≡ Some known
sum_at x digits known len end prefix r =
    let whole : length (check_start ++ x) ≡ 60 = omega (arith, length-append check_start x) in
    rw (eq-eqb (length (check_start ++ x)) 60 whole, eq-eqb (get_or x 40 0) 34 end, prefix) r

pub sum_in-sum_piece : (known : List ℕ) → IsSum known → sum_in (sum_piece known) ≡ Some known
unfolding sum_piece
sum_in-sum_piece known h =
    let len : length (sum_text known) ≡ 40 = length-sum_text known ∙ ap (λ n. 2 * n) h.0 in
    let all : length (sum_text known ++ 34 ∷ []) ≡ 41 = omega (arith, length-append (sum_text known) (34 ∷ [])) in
    sum_at (sum_text known ++ 34 ∷ []) (sum_text known) known all (get_or_at (sum_text known) 34 [] 0 40 len) (take_at (sum_text known) (34 ∷ []) 40 len) (read-sum_text known h)

-- ---- `key=value`

pairs_at : (c : ℕ) (p : List ℕ) (k : List ℕ × List ℕ) (b : Bool) → nat_lt (position_or_len (λ x. x == c) p) (length p) ≡ b
    → option_map (λ i. (take i p, drop (i + 1) p)) (cond b (Some (position_or_len (λ x. x == c) p)) None) ≡ Some k → p ≡ k.0 ++ c ∷ k.1
pairs_at c p k false e h = cc h
pairs_at c p k true e h =
    let i = position_or_len (λ x. x == c) p in
    let within = ltb-true i (length p) e in
    let split = split_at_first (λ x. x == c) p 0 within in
    let is = eqb-true (get_or p i 0) c (passes_at_first (λ x. x == c) p 0 within) in
    let parts = some_pair_parts (take i p) k.0 (drop (i + 1) p) k.1 h in
    split ∙ ap (λ x. take i p ++ x ∷ drop (i + 1) p) is ∙ ap₂ (λ (a b : List ℕ). a ++ c ∷ b) parts.0 parts.1

pub cut_at-is : (c : ℕ) (p : List ℕ) (k : List ℕ × List ℕ) → cut_at c p ≡ Some k → p ≡ k.0 ++ c ∷ k.1
cut_at-is c p k h = pairs_at c p k (nat_lt (position_or_len (λ x. x == c) p) (length p)) refl h

pub cut_at-at : (c : ℕ) (a b : List ℕ) → All (λ x. (x == c) ≡ false) a → cut_at c (a ++ c ∷ b) ≡ Some (a, b)
cut_at-at c a b none =
    let p = a ++ c ∷ b in
    let len = length-append a (c ∷ b) in
    let at : position_or_len (λ x. x == c) p ≡ length a = position_or_len_is (λ x. x == c) p (length a) 0 (omega arith)
    (λ k below. ap (λ x. x == c) (get_or_append_left a (c ∷ b) 0 k below) ∙ All-get_or (λ x. (x == c) ≡ false) a k 0 below none)
    (λ within. eq-eqb (get_or p (length a) 0) c (get_or_at a c b 0 (length a) refl)) in
    let more : length a < length p = omega arith in
    let rest : drop (length a + 1) p ≡ b = sym (drop-drop 1 (length a) p) ∙ ap (drop 1) (drop_at a (c ∷ b) (length a) refl) in
    rw (at, lt-ltb _ _ more, take_at a (c ∷ b) (length a) refl, rest) refl

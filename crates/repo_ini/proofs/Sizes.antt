-- How long an info text is at most.
use Rattle.std.proofs.Common.{ℕ, ◌+◌, ◌*◌, ◌/◌, ◌%◌, ◌≤◌, Bool, true, false, cond, List, [], ◌∷◌, ◌++◌, length, pos, negsuc, nat_lt, ap, arith, codes, length-append, lit≤, lit<}
use Rattle.std.specs.List.{AllByRecursion, flat_map}
use Rattle.std.specs.Char.{digit_char}
use Rattle.std.proofs.lemmas.Fmt.{length-decimal-le, length_signed_le}
use Rattle.json.specs.Print.{quoted, escape, escape_byte, escape_letter}
use Rattle.sha1.specs.Sha1.{sha1}
use Rattle.serde_json.specs.Data.{Num, unsigned, negative, float, Data, null, boolean, number, string, array, object, Items, no_items, item, Members, no_members, member}
use Rattle.serde_json.specs.Written.{number_text, compact_text, items_text, members_text, comma_if}
use Rattle.base_text.specs.Sum.{sum_text}
use Rattle.base_text.proofs.Sums.{length-sum_text}
use Rattle.base_text.proofs.Digests.{IsSum-sha1}
use Rattle.base_model.specs.InfoText.{Section, key_line, section_text, head, text_with, signed_text, info_text}
use Rattle.repo_ini.specs.Built.{IsBuiltNum, IsBuilt, AreBuilt, MembersAreBuilt}
use Rattle.repo_ini.proofs.Heads.{head_text}

-- ---- a value's text

abbrev mutual
  pub size : Data → ℕ
  size null = 4
  size (boolean b) = 5
  size (number n) = 20
  size (string s) = 2 + 6 * length s
  size (array ds) = 1 + items_size ds
  size (object ms) = 1 + members_size ms

  pub items_size : Items → ℕ
  items_size no_items = 1
  items_size (item d ds) = 1 + size d + items_size ds

  pub members_size : Members → ℕ
  members_size no_members = 1
  members_size (member k d ms) = 4 + 6 * length k + size d + members_size ms

chosen_size : (a b : Bool) (xs ys zs : List ℕ) → length xs ≤ 6 → length ys ≤ 6 → length zs ≤ 6 → length (cond a xs (cond b ys zs)) ≤ 6
chosen_size true b xs ys zs h g k = h
chosen_size false true xs ys zs h g k = g
chosen_size false false xs ys zs h g k = k

escape_byte_size : (x : ℕ) → length (escape_byte x) ≤ 6
unfolding escape_byte
escape_byte_size x =
    chosen_size (nat_lt 0 (escape_letter x)) (nat_lt x 32) (92 ∷ escape_letter x ∷ [])
    (92 ∷ 117 ∷ 48 ∷ 48 ∷ digit_char (x / 16) ∷ digit_char (x % 16) ∷ []) (x ∷ [])
    (omega arith) (omega arith) (omega arith)

escape_size : (s : List ℕ) → length (escape s) ≤ 6 * length s
escape_size [] = omega arith
escape_size (x ∷ s) = omega (arith, length-append (escape_byte x) (escape s), escape_byte_size x, escape_size s)

quoted_size : (s : List ℕ) → length (quoted s) ≤ 2 + 6 * length s
quoted_size s = omega (arith, length-append (escape s) (34 ∷ []), escape_size s)

number_size : (n : Num) → IsBuiltNum n → length (number_text n) ≤ 20
number_size (unsigned n) h = length-decimal-le 20 n (lit< tt) (omega arith) h
number_size (negative (pos n)) h = absurd h
number_size (negative (negsuc n)) h = length_signed_le 19 (negsuc n) (omega arith) h
number_size (float x) h = absurd h

boolean_size : (b : Bool) → length (compact_text (boolean b)) ≤ 5
boolean_size true = lit≤ tt
boolean_size false = lit≤ tt

comma_size : (b : Bool) → length (comma_if b) ≤ 1
comma_size true = lit≤ tt
comma_size false = lit≤ tt

mutual
  pub length-compact_text : (d : Data) → IsBuilt d → length (compact_text d) ≤ size d
  length-compact_text null h = lit≤ tt
  length-compact_text (boolean b) h = boolean_size b
  length-compact_text (number n) h = number_size n h
  length-compact_text (string s) h = quoted_size s
  length-compact_text (array ds) h = let r = items_within false ds h in omega arith
  length-compact_text (object ms) h = let r = members_within false ms h in omega arith

  items_within : (later : Bool) (ds : Items) → AreBuilt ds → length (items_text later ds) ≤ items_size ds
  items_within later no_items h = lit≤ tt
  items_within later (item d ds) h =
      let one = length-compact_text d h.0 in
      let more = items_within true ds h.1 in
      omega (arith, comma_size later, length-append (comma_if later) (compact_text d ++ items_text true ds), length-append (compact_text d) (items_text true ds))

  members_within : (later : Bool) (ms : Members) → MembersAreBuilt ms → length (members_text later ms) ≤ members_size ms
  members_within later no_members h = lit≤ tt
  members_within later (member k d ms) h =
      let one = length-compact_text d h.1 in
      let more = members_within true ms h.3 in
      omega (arith, comma_size later, quoted_size k, length-append (comma_if later) (quoted k ++ 58 ∷ (compact_text d ++ members_text true ms)), length-append (quoted k) (58 ∷ (compact_text d ++ members_text true ms)), length-append (compact_text d) (members_text true ms))

-- ---- the sections' text

abbrev pub keys_size : List (List ℕ × Data) → ℕ
keys_size [] = 0
keys_size (k ∷ ks) = 2 + length k.0 + size k.1 + keys_size ks

abbrev pub sections_size : List Section → ℕ
sections_size [] = 0
sections_size (s ∷ ss) = 4 + length s.name + keys_size s.keys + sections_size ss

abbrev pub KeysAreBuilt : List (List ℕ × Data) → Type 0
KeysAreBuilt ks = AllByRecursion (λ k. IsBuilt k.1) ks

abbrev pub SectionsAreBuilt : List Section → Type 0
SectionsAreBuilt ss = AllByRecursion (λ s. KeysAreBuilt s.keys) ss

key_size : (k : List ℕ) (d : Data) → IsBuilt d → length (key_line (k, d)) ≤ 2 + length k + size d
key_size k d h = omega (arith, length-append k (61 ∷ (compact_text d ++ 10 ∷ [])), length-append (compact_text d) (10 ∷ []), length-compact_text d h)

keys_within : (ks : List (List ℕ × Data)) → KeysAreBuilt ks → length (flat_map key_line ks) ≤ keys_size ks
keys_within [] h = omega arith
keys_within (k ∷ ks) h = omega (arith, length-append (key_line k) (flat_map key_line ks), key_size k.0 k.1 h.0, keys_within ks h.1)

section_size : (s : Section) → KeysAreBuilt s.keys → length (section_text s) ≤ 4 + length s.name + keys_size s.keys
section_size s h =
    let keys = keys_within s.keys h in
    omega (arith, length-append (91 ∷ (s.name ++ 93 ∷ 10 ∷ [])) (flat_map key_line s.keys ++ 10 ∷ []), length-append s.name (93 ∷ 10 ∷ []), length-append (flat_map key_line s.keys) (10 ∷ []))

sections_within : (ss : List Section) → SectionsAreBuilt ss → length (flat_map section_text ss) ≤ sections_size ss
sections_within [] h = omega arith
sections_within (s ∷ ss) h = omega (arith, length-append (section_text s) (flat_map section_text ss), section_size s h.0, sections_within ss h.1)

abbrev last : List ℕ
last = codes "[backrest]\nbackrest-checksum=\""

head_size : length (section_text head) ≤ 30
head_size = let e = ap length head_text in omega arith

with_size : (digits : List ℕ) (ss : List Section) → SectionsAreBuilt ss → length (text_with digits ss) ≤ 62 + length digits + sections_size ss
unfolding text_with
with_size digits ss h =
    omega (arith, head_size, sections_within ss h, length-append (section_text head ++ flat_map section_text ss) (last ++ (digits ++ 34 ∷ 10 ∷ [])), length-append (section_text head) (flat_map section_text ss), length-append digits (34 ∷ 10 ∷ []))

pub length-info_text : (ss : List Section) → SectionsAreBuilt ss → length (info_text ss) ≤ 102 + sections_size ss
length-info_text ss h =
    let sum = sha1 (signed_text ss) in
    omega (arith, with_size (sum_text sum) ss h, length-sum_text sum, (IsSum-sha1 (signed_text ss)).0)

-- The pieces of a text of the form, and that no piece has a newline.
use Rattle.std.proofs.Common.{◌≡◌, ℕ, zero, suc, ◌/◌, ◌%◌, Bool, true, false, ◌&&◌, not, cond, List, [], ◌∷◌, ◌++◌, map, codes, slice_index, refl, sym, ap, ◌∙◌, subst, arith, append_assoc, append-nil, ◌==◌, nat_lt}
use Rattle.std.specs.List.{flat_map, list_all, AllByRecursion, onto_first}
use Rattle.std.proofs.lemmas.Bool.{and_parts, not-true}
use Rattle.std.proofs.lemmas.List.Splits.{slice_split_at, join_with_byte-slice_split}
use Rattle.std.specs.List.{join_with_byte}
use Rattle.hex.specs.Hex.{encode_with, lower_digits}
use Rattle.serde_json.specs.Data.{Data}
use Rattle.serde_json.specs.Written.{compact_text}
use Rattle.base_text.specs.Sum.{sum_text}
use Rattle.base_model.specs.Json.{IsOneLine}
use Rattle.base_model.specs.InfoText.{Section, head, key_line, name_line, section_text, text_with, is_key, is_key_byte, begins_well, IsKey, IsSection, IsInfo}
use Rattle.repo_ini.specs.Form.{pieces}
use Rattle.repo_ini.specs.Reading.{check_start, over}
use Rattle.repo_ini.proofs.OneLine.{line_nil, line_then, line_append, no_break, line_by}
use Rattle.repo_ini.proofs.Heads.{head_text}
use Rattle.repo_ini.proofs.Pieces.{name_piece, key_piece, sum_piece}
use Rattle.repo_ini.proofs.Steps.{section_pieces, done_pieces, head_pieces, spelled}

-- ---- each piece of a text is one line

abbrev AreLines : List (List ℕ) → Type 0
AreLines = AllByRecursion IsOneLine

lines_onto : (x : ℕ) (ps : List (List ℕ)) → (x == 10) ≡ false → AreLines ps → AreLines (onto_first x ps)
lines_onto x [] h g = (line_then x [] h line_nil, tt)
lines_onto x (p ∷ ps) h g = (line_then x p h g.0, g.1)

lines_split : (x : ℕ) (b : Bool) (ps : List (List ℕ)) → (x == 10) ≡ b → AreLines ps → AreLines (cond b ([] ∷ ps) (onto_first x ps))
lines_split x true ps h g = (line_nil, g)
lines_split x false ps h g = lines_onto x ps h g

pub pieces-lines : (bytes : List ℕ) → AllByRecursion IsOneLine (pieces bytes)
pieces-lines [] = (line_nil, tt)
pieces-lines (x ∷ xs) = lines_split x (x == 10) (pieces xs) refl (pieces-lines xs)

-- ---- the pieces of a text of the form

-- the text is these lines, each with its newline
abbrev Splits : List ℕ → List (List ℕ) → Type 0
Splits text ps = (rest : List ℕ) → pieces (text ++ rest) ≡ ps ++ pieces rest

splits_line : (l : List ℕ) → IsOneLine l → Splits (l ++ 10 ∷ []) (l ∷ [])
splits_line l h rest = ap pieces (append_assoc l (10 ∷ []) rest) ∙ slice_split_at (λ b. b == 10) l 10 rest h refl

splits_then : (a b : List ℕ) (ps qs : List (List ℕ)) → Splits a ps → Splits b qs → Splits (a ++ b) (ps ++ qs)
splits_then a b ps qs f g rest = ap pieces (append_assoc a b rest) ∙ f (b ++ rest) ∙ ap (λ l. ps ++ l) (g rest) ∙ sym (append_assoc ps qs (pieces rest))

not_parts : (a b : Bool) → (not a && not b) ≡ true → (a ≡ false) × (b ≡ false)
not_parts true b h = cc h
not_parts false true h = cc h
not_parts false false h = (refl, refl)

key_byte : (c : ℕ) → is_key_byte c ≡ true → (c == 10) ≡ false
key_byte c h =
    let low = (not_parts (nat_lt c 32) (c == 127) (and_parts (not (nat_lt c 32) && not (c == 127)) (not (c == 61)) h).0).0 in
    grind (arith, low)

key_bytes_line : (k : List ℕ) → list_all is_key_byte k ≡ true → IsOneLine k
key_bytes_line [] h = line_nil
key_bytes_line (c ∷ cs) h = let p = and_parts (is_key_byte c) (list_all is_key_byte cs) h in line_then c cs (key_byte c p.0) (key_bytes_line cs p.1)

key_line_is : (k : List ℕ) → is_key k ≡ true → IsOneLine k
key_line_is k h = key_bytes_line k (and_parts (begins_well k) (list_all is_key_byte k) h).1

splits_key : (k : List ℕ × Data) → IsKey k → Splits (key_line k) (key_piece k ∷ [])
splits_key k is =
    let line = line_append k.0 (61 ∷ compact_text k.1) (key_line_is k.0 is.name) (line_then 61 (compact_text k.1) refl is.value.one_line) in
    subst (λ t. Splits t (key_piece k ∷ [])) (append_assoc k.0 (61 ∷ compact_text k.1) (10 ∷ [])) (splits_line (key_piece k) line)

splits_keys : (ks : List (List ℕ × Data)) → AllByRecursion IsKey ks → Splits (flat_map key_line ks) (map key_piece ks)
splits_keys [] is = λ rest. refl
splits_keys (k ∷ ks) is = splits_then (key_line k) (flat_map key_line ks) (key_piece k ∷ []) (map key_piece ks) (splits_key k is.0) (splits_keys ks is.1)

splits_name : (n : List ℕ) → IsOneLine n → Splits (name_line n) (name_piece n ∷ [])
splits_name n h =
    let line = line_then 91 (n ++ 93 ∷ []) refl (line_append n (93 ∷ []) h (line_then 93 [] refl line_nil)) in
    subst (λ t. Splits t (name_piece n ∷ [])) (ap (λ (t : List ℕ). 91 ∷ t) (append_assoc n (93 ∷ []) (10 ∷ []))) (splits_line (name_piece n) line)

splits_section : (s : Section) → IsSection s → Splits (section_text s) (section_pieces s)
splits_section s is =
    let name = key_line_is s.name (and_parts (is_key s.name) _ is.name).0 in
    splits_then (name_line s.name) (flat_map key_line s.keys ++ 10 ∷ []) (name_piece s.name ∷ []) (map key_piece s.keys ++ [] ∷ []) (splits_name s.name name)
    (splits_then (flat_map key_line s.keys) (10 ∷ []) (map key_piece s.keys) ([] ∷ []) (splits_keys s.keys is.keys) (splits_line [] line_nil))

splits_sections : (ss : List Section) → AllByRecursion IsSection ss → Splits (flat_map section_text ss) (flat_map section_pieces ss)
splits_sections [] is = λ rest. refl
splits_sections (s ∷ ss) is = splits_then (section_text s) (flat_map section_text ss) (section_pieces s) (flat_map section_pieces ss) (splits_section s is.0) (splits_sections ss is.1)

-- ---- the sum's digits

digit_other : (t : List ℕ) → no_break t ≡ true → (i : ℕ) → (slice_index t i == 10) ≡ false
digit_other [] h i = refl
digit_other (x ∷ t) h zero = not-true (x == 10) (and_parts (not (x == 10)) (no_break t) h).0
digit_other (x ∷ t) h (suc i) = digit_other t (and_parts (not (x == 10)) (no_break t) h).1 i

sum_line : (s : List ℕ) → IsOneLine (sum_text s)
unfolding encode_with
sum_line [] = line_nil
sum_line (b ∷ s) = line_then (slice_index lower_digits (b / 16)) (slice_index lower_digits (b % 16) ∷ sum_text s) (digit_other lower_digits refl (b / 16)) (line_then (slice_index lower_digits (b % 16)) (sum_text s) (digit_other lower_digits refl (b % 16)) (sum_line s))

-- ---- the whole

head_splits : Splits (section_text head) head_pieces
head_splits =
    let name : Splits (codes "[backrest]" ++ 10 ∷ []) (codes "[backrest]" ∷ []) = splits_line (codes "[backrest]") (line_by (codes "[backrest]") refl) in
    let key : Splits (codes "backrest-format=5" ++ 10 ∷ []) (codes "backrest-format=5" ∷ []) = splits_line (codes "backrest-format=5") (line_by (codes "backrest-format=5") refl) in
    let end = splits_line [] line_nil in
    let all = splits_then (codes "[backrest]\n") (codes "backrest-format=5\n\n") (codes "[backrest]" ∷ []) (codes "backrest-format=5" ∷ [] ∷ []) name
    (splits_then (codes "backrest-format=5\n") (codes "\n") (codes "backrest-format=5" ∷ []) ([] ∷ []) key end) in
    subst (λ t. Splits t head_pieces) (sym head_text) all

last_splits : (known : List ℕ) → Splits (codes "[backrest]\nbackrest-checksum=\"" ++ (sum_text known ++ 34 ∷ 10 ∷ [])) (codes "[backrest]" ∷ sum_piece known ∷ [])
unfolding sum_piece
last_splits known =
    let line = line_append check_start (sum_text known ++ 34 ∷ []) (line_by check_start refl) (line_append (sum_text known) (34 ∷ []) (sum_line known) (line_by (34 ∷ []) refl)) in
    let one = splits_line (sum_piece known) line in
    let name = splits_line (codes "[backrest]") (line_by (codes "[backrest]") refl) in
    let same : check_start ++ (sum_text known ++ 34 ∷ []) ++ 10 ∷ [] ≡ check_start ++ (sum_text known ++ 34 ∷ 10 ∷ []) = ap (λ l. check_start ++ l) (append_assoc (sum_text known) (34 ∷ []) (10 ∷ [])) in
    splits_then (codes "[backrest]\n") (check_start ++ (sum_text known ++ 34 ∷ 10 ∷ [])) (codes "[backrest]" ∷ []) (sum_piece known ∷ []) name (subst (λ t. Splits t (sum_piece known ∷ [])) same one)

pub pieces-text_with : (ss : List Section) (known : List ℕ) → IsInfo ss → pieces (text_with (sum_text known) ss) ≡ spelled (over ss known)
unfolding text_with
pieces-text_with ss known info =
    let end = codes "[backrest]\nbackrest-checksum=\"" ++ (sum_text known ++ 34 ∷ 10 ∷ []) in
    let all = splits_then (flat_map section_text (head ∷ ss)) end (done_pieces ss) (codes "[backrest]" ∷ sum_piece known ∷ [])
    (splits_then (section_text head) (flat_map section_text ss) head_pieces (flat_map section_pieces ss) head_splits (splits_sections ss info.sections)) (last_splits known) in
    ap pieces (sym (append-nil (flat_map section_text (head ∷ ss) ++ end))) ∙ all [] ∙ append_assoc (done_pieces ss) (codes "[backrest]" ∷ sum_piece known ∷ []) ([] ∷ [])

-- texts with the same pieces are the same
pub pieces-injective : (a b : List ℕ) → pieces a ≡ pieces b → a ≡ b
pieces-injective a b h = sym (join_with_byte-slice_split 10 a) ∙ ap (join_with_byte 10) h ∙ join_with_byte-slice_split 10 b

-- A value that is built of 64-bit integers, UTF-8 and keys in order is what its own text reads as.
use Rattle.std.proofs.Common.{◌≡◌, ℕ, zero, suc, ◌<◌, ◌≤◌, max, ◌||◌, ◌&&◌, ne_eqb, inl, inr, subst, Bool, true, false, List, [], ◌∷◌, ◌++◌, Option, Some, option_map, option_and_then, pos, negsuc, IsUtf8, decimal, refl, sym, ap, ap₂, ◌∙◌, arith, append-nil}
use Rattle.std.proofs.lemmas.Str.{IsUtf8-append, IsUtf8-from_ascii}
use Rattle.std.proofs.lemmas.Fmt.{IsAscii-decimal, IsAscii-signed}
use Rattle.json.specs.Json as json
use Rattle.json.specs.Lex.{tokens}
use Rattle.json.specs.Token.{Token}
use Rattle.json.specs.Print.{quoted, escape, escape_byte}
use Rattle.json.proofs.Printed.Strings.{escape_byte_plain}
use Rattle.std.proofs.lemmas.Bool.{and_parts, cases_eq, cases_lt}
use Rattle.std.specs.Str.Parse.{AllDigits}
use Rattle.std.proofs.lemmas.Str.Parse.{digit_from_value}
use Rattle.std.proofs.lemmas.Fmt.{decimal_is_IsNumeral}
use Rattle.json.specs.Tree as tree
use Rattle.json.proofs.Printed.Tokens.{tokens-print}
use Rattle.json.proofs.Printed.Trees.{ArePrintable-json_tokens, value-json_tokens}
use Rattle.json.proofs.Printed.Decimals.{IsNumber-decimal, IsNumber-signed_decimal}
use Rattle.json.proofs.Printed.Utf8.{IsUtf8-quoted, IsUtf8-are_ascii, IsUtf8-boolean}
use Rattle.serde_json.specs.Data.{Num, unsigned, negative, float, Data, null, boolean, number, string, array, object, Items, no_items, item, Members, no_members, member, put, depth, items_depth, members_depth}
use Rattle.serde_json.specs.Read.{read, max_depth, number_of, of_json, of_items, of_members}
use Rattle.serde_json.specs.Written.{number_text, compact_text, items_text, members_text, comma_if, has_float, items_have_float, members_have_float, outline, items_outline, members_outline}
use Rattle.serde_json.proofs.Numbers.{number_of-decimal, number_of-negative}
use Rattle.serde_json.proofs.Texts.{print-outline}
use Rattle.base_model.specs.Json.{IsOneLine, IsValue}
use Rattle.repo_ini.proofs.OneLine.{line_nil, line_then, line_append, no_break, line_by}
use Rattle.repo_ini.specs.Built.{IsBuiltNum, IsAfterAll, AreAfter, IsBuilt, AreBuilt, MembersAreBuilt}

-- ---- numbers

number_read : (n : Num) → IsBuiltNum n → number_of (number_text n) ≡ Some n
number_read (unsigned n) h = number_of-decimal n h
number_read (negative (pos n)) h = absurd h
number_read (negative (negsuc n)) h = number_of-negative n h
number_read (float x) h = absurd h

number_printable : (n : Num) → IsBuiltNum n → tree.HasNumbers (outline (number n))
number_printable (unsigned n) h = IsNumber-decimal n h
number_printable (negative (pos n)) h = absurd h
number_printable (negative (negsuc n)) h = IsNumber-signed_decimal (negsuc n) h
number_printable (float x) h = absurd h

number_utf8 : (n : Num) → IsBuiltNum n → IsUtf8 (number_text n)
number_utf8 (unsigned n) h = IsUtf8-from_ascii _ (IsAscii-decimal n h)
number_utf8 (negative (pos n)) h = absurd h
number_utf8 (negative (negsuc n)) h = IsUtf8-from_ascii _ (IsAscii-signed (negsuc n) h)
number_utf8 (float x) h = absurd h

number_whole : (n : Num) → IsBuiltNum n → has_float (number n) ≡ false
number_whole (unsigned n) h = refl
number_whole (negative z) h = refl
number_whole (float x) h = absurd h

-- ---- members go in one after another

abbrev then : Members → Members → Members
then no_members ms = ms
then (member k d found) ms = member k d (then found ms)

put_last : (k : List ℕ) (d : Data) (found : Members) → IsAfterAll k found → put k d found ≡ then found (member k d no_members)
put_last k d no_members h = refl
put_last k d (member l e found) h = rw h.0 (ap (member l e) (put_last k d found h.1))

then_assoc : (a b c : Members) → then (then a b) c ≡ then a (then b c)
then_assoc no_members b c = refl
then_assoc (member k d a) b c = ap (member k d) (then_assoc a b c)

then_none : (a : Members) → then a no_members ≡ a
then_none no_members = refl
then_none (member k d a) = ap (member k d) (then_none a)

after_then : (k : List ℕ) (a b : Members) → IsAfterAll k a → IsAfterAll k b → IsAfterAll k (then a b)
after_then k no_members b h g = g
after_then k (member l e a) b h g = (h.0, after_then k a b h.1 g)

all_after_then : (a b ms : Members) → AreAfter a ms → AreAfter b ms → AreAfter (then a b) ms
all_after_then a b no_members h g = tt
all_after_then a b (member k d ms) h g = (after_then k a b h.0 g.0, all_after_then a b ms h.1 g.1)

none_before : (ms : Members) → AreAfter no_members ms
none_before no_members = tt
none_before (member k d ms) = (tt, none_before ms)

mutual
  reads : (d : Data) → IsBuilt d → of_json (outline d) ≡ Some d
  reads null h = refl
  reads (boolean b) h = refl
  reads (number n) h = ap (option_map number) (number_read n h)
  reads (string s) h = refl
  reads (array ds) h = ap (option_map array) (items_read ds h)
  reads (object ms) h = ap (option_map object) (members_read ms no_members h (none_before ms))

  items_read : (ds : Items) → AreBuilt ds → of_items (items_outline ds) ≡ Some ds
  items_read no_items h = refl
  items_read (item d ds) h = rw (reads d h.0) (ap (option_map (item d)) (items_read ds h.1))

  members_read : (ms found : Members) → MembersAreBuilt ms → AreAfter found ms → of_members (members_outline ms) found ≡ Some (then found ms)
  members_read no_members found h after = ap Some (sym (then_none found))
  members_read (member k d ms) found h after =
      let one = member k d no_members in
      rw (reads d h.1, put_last k d found after.0)
      (members_read ms (then found one) h.3 (all_after_then found one ms after.1 h.2) ∙ ap Some (then_assoc found one ms))

mutual
  printable : (d : Data) → IsBuilt d → tree.HasNumbers (outline d)
  printable null h = tt
  printable (boolean b) h = tt
  printable (number n) h = number_printable n h
  printable (string s) h = tt
  printable (array ds) h = items_printable ds h
  printable (object ms) h = members_printable ms h

  items_printable : (ds : Items) → AreBuilt ds → tree.ItemsHaveNumbers (items_outline ds)
  items_printable no_items h = tt
  items_printable (item d ds) h = (printable d h.0, items_printable ds h.1)

  members_printable : (ms : Members) → MembersAreBuilt ms → tree.MembersHaveNumbers (members_outline ms)
  members_printable no_members h = tt
  members_printable (member k d ms) h = (printable d h.1, members_printable ms h.3)

mutual
  same_depth : (d : Data) → tree.depth (outline d) ≡ depth d
  same_depth null = refl
  same_depth (boolean b) = refl
  same_depth (number n) = refl
  same_depth (string s) = refl
  same_depth (array ds) = ap suc (same_items_depth ds)
  same_depth (object ms) = ap suc (same_members_depth ms)

  same_items_depth : (ds : Items) → tree.items_depth (items_outline ds) ≡ items_depth ds
  same_items_depth no_items = refl
  same_items_depth (item d ds) = ap₂ max (same_depth d) (same_items_depth ds)

  same_members_depth : (ms : Members) → tree.members_depth (members_outline ms) ≡ members_depth ms
  same_members_depth no_members = refl
  same_members_depth (member k d ms) = ap₂ max (same_depth d) (same_members_depth ms)

or_false : (a b : Bool) → a ≡ false → b ≡ false → (a || b) ≡ false
or_false true b h g = h
or_false false b h g = g

mutual
  whole : (d : Data) → IsBuilt d → has_float d ≡ false
  whole null h = refl
  whole (boolean b) h = refl
  whole (number n) h = number_whole n h
  whole (string s) h = refl
  whole (array ds) h = items_whole ds h
  whole (object ms) h = members_whole ms h

  items_whole : (ds : Items) → AreBuilt ds → items_have_float ds ≡ false
  items_whole no_items h = refl
  items_whole (item d ds) h = or_false _ _ (whole d h.0) (items_whole ds h.1)

  members_whole : (ms : Members) → MembersAreBuilt ms → members_have_float ms ≡ false
  members_whole no_members h = refl
  members_whole (member k d ms) h = or_false _ _ (whole d h.1) (members_whole ms h.3)

comma_utf8 : (b : Bool) → IsUtf8 (comma_if b)
comma_utf8 true = IsUtf8-are_ascii (44 ∷ []) refl
comma_utf8 false = IsUtf8-are_ascii [] refl

byte_then : (c : ℕ) (xs : List ℕ) → IsUtf8 (c ∷ []) → IsUtf8 xs → IsUtf8 (c ∷ xs)
byte_then c xs h g = IsUtf8-append (c ∷ []) xs h g

mutual
  is_text : (d : Data) → IsBuilt d → IsUtf8 (compact_text d)
  is_text null h = IsUtf8-are_ascii _ refl
  is_text (boolean b) h = IsUtf8-boolean b
  is_text (number n) h = number_utf8 n h
  is_text (string s) h = IsUtf8-quoted s h
  is_text (array ds) h = byte_then 91 _ (IsUtf8-are_ascii (91 ∷ []) refl) (items_text_utf8 false ds h)
  is_text (object ms) h = byte_then 123 _ (IsUtf8-are_ascii (123 ∷ []) refl) (members_text_utf8 false ms h)

  items_text_utf8 : (later : Bool) (ds : Items) → AreBuilt ds → IsUtf8 (items_text later ds)
  items_text_utf8 later no_items h = IsUtf8-are_ascii (93 ∷ []) refl
  items_text_utf8 later (item d ds) h = IsUtf8-append _ _ (comma_utf8 later) (IsUtf8-append _ _ (is_text d h.0) (items_text_utf8 true ds h.1))

  members_text_utf8 : (later : Bool) (ms : Members) → MembersAreBuilt ms → IsUtf8 (members_text later ms)
  members_text_utf8 later no_members h = IsUtf8-are_ascii (125 ∷ []) refl
  members_text_utf8 later (member k d ms) h =
      IsUtf8-append _ _ (comma_utf8 later) (IsUtf8-append _ _ (IsUtf8-quoted k h.0) (byte_then 58 _ (IsUtf8-are_ascii (58 ∷ []) refl) (IsUtf8-append _ _ (is_text d h.1) (members_text_utf8 true ms h.3))))

-- ---- no newline

-- the escapes of the bytes below n
abbrev breaks_below : ℕ → Bool
breaks_below zero = true
breaks_below (suc n) = no_break (escape_byte n) && breaks_below n

break_below : (n : ℕ) → breaks_below n ≡ true → (x : ℕ) → x < n → no_break (escape_byte x) ≡ true
break_below zero e x h = absurd (omega arith)
break_below (suc n) e x h =
    let p = and_parts (no_break (escape_byte n)) (breaks_below n) e in
    elim (cases_eq x n) [ inl same ↦ rw same p.0 | inr differ ↦ break_below n p.1 x (omega arith) ]

low_breaks : breaks_below 128 ≡ true
unfolding escape_byte
low_breaks = refl

escape_line : (x : ℕ) → IsOneLine (escape_byte x)
escape_line x = elim (cases_lt x 128) [
  | inl low ↦ line_by (escape_byte x) (break_below 128 low_breaks x low)
  | inr high ↦ subst IsOneLine (sym (escape_byte_plain x (λ e. omega arith) (λ e. omega arith) (omega arith))) (line_then x [] (ne_eqb x 10 (λ e. omega arith)) line_nil)
]

escaped_line : (s : List ℕ) → IsOneLine (escape s)
escaped_line [] = line_nil
escaped_line (x ∷ s) = line_append (escape_byte x) (escape s) (escape_line x) (escaped_line s)

quoted_line : (s : List ℕ) → IsOneLine (quoted s)
quoted_line s = line_then 34 (escape s ++ 34 ∷ []) refl (line_append (escape s) (34 ∷ []) (escaped_line s) (line_by (34 ∷ []) refl))

digit_line : (ds : List ℕ) → AllDigits 10 ds → IsOneLine ds
digit_line [] h = line_nil
digit_line (c ∷ cs) h = let r = digit_from_value c h.0 in line_then c cs (ne_eqb c 10 (λ e. omega arith)) (digit_line cs h.1)

number_line : (n : Num) → IsBuiltNum n → IsOneLine (number_text n)
number_line (unsigned n) h = digit_line (decimal n) (decimal_is_IsNumeral n h).0.1
number_line (negative (pos n)) h = absurd h
number_line (negative (negsuc n)) h = line_then 45 (decimal (suc n)) refl (digit_line (decimal (suc n)) (decimal_is_IsNumeral (suc n) (omega arith)).0.1)
number_line (float x) h = absurd h

comma_line : (b : Bool) → IsOneLine (comma_if b)
comma_line true = line_by (44 ∷ []) refl
comma_line false = line_nil

bool_line : (b : Bool) → IsOneLine (compact_text (boolean b))
bool_line true = line_by (compact_text (boolean true)) refl
bool_line false = line_by (compact_text (boolean false)) refl

mutual
  one_line : (d : Data) → IsBuilt d → IsOneLine (compact_text d)
  one_line null h = line_by (compact_text null) refl
  one_line (boolean b) h = bool_line b
  one_line (number n) h = number_line n h
  one_line (string s) h = quoted_line s
  one_line (array ds) h = line_then 91 (items_text false ds) refl (items_line false ds h)
  one_line (object ms) h = line_then 123 (members_text false ms) refl (members_line false ms h)

  items_line : (later : Bool) (ds : Items) → AreBuilt ds → IsOneLine (items_text later ds)
  items_line later no_items h = line_by (93 ∷ []) refl
  items_line later (item d ds) h = line_append (comma_if later) (compact_text d ++ items_text true ds) (comma_line later) (line_append (compact_text d) (items_text true ds) (one_line d h.0) (items_line true ds h.1))

  members_line : (later : Bool) (ms : Members) → MembersAreBuilt ms → IsOneLine (members_text later ms)
  members_line later no_members h = line_by (125 ∷ []) refl
  members_line later (member k d ms) h =
      let value = line_append (compact_text d) (members_text true ms) (one_line d h.1) (members_line true ms h.3) in
      let body = line_append (quoted k) (58 ∷ (compact_text d ++ members_text true ms)) (quoted_line k) (line_then 58 (compact_text d ++ members_text true ms) refl value) in
      line_append (comma_if later) (quoted k ++ 58 ∷ (compact_text d ++ members_text true ms)) (comma_line later) body

abbrev last_of : Option (json.Json × List Token) → Option Data
last_of o = option_and_then of_json (option_and_then (λ p. json.if_last p.0 p.1) o)

pub read-compact_text : (d : Data) → IsBuilt d → depth d ≤ max_depth → read (compact_text d) ≡ Some d
read-compact_text d h shallow =
    let ts = tree.json_tokens (outline d) in
    let same = ap tokens (sym (print-outline d)) ∙ tokens-print ts (ArePrintable-json_tokens (outline d) (printable d h)) ∙ sym (append-nil ts) in
    let depths = same_depth d in
    ap last_of (ap (json.value max_depth) same ∙ value-json_tokens (outline d) max_depth [] (omega arith)) ∙ reads d h

pub IsValue-built : (d : Data) → IsBuilt d → depth d ≤ max_depth → IsValue d
IsValue-built d h shallow = record { utf8 = is_text d h; no_float = whole d h; one_line = one_line d h; reads = read-compact_text d h shallow }

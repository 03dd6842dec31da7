-- How much a cluster adds to the text of a history.
use Rattle.std.proofs.Common.{◌≡◌, ℕ, ◌+◌, ◌≤◌, ◌<◌, ◌^◌, Bool, true, false, cond, List, [], ◌∷◌, ◌++◌, map, length, refl, ap, ◌∙◌, arith, codes, decimal, length-append, lit<}
use Rattle.std.specs.Prelude.{if◌then◌else◌, nat_lt, ◌/◌, ◌%◌}
use Rattle.std.specs.List.{flat_map}
use Rattle.std.specs.Char.{digit_char}
use Rattle.std.specs.Str.Parse.{AllDigits}
use Rattle.std.proofs.lemmas.List.{map-append}
use Rattle.std.proofs.lemmas.Fmt.{length-decimal-le, decimal_is_IsNumeral}
use Rattle.std.proofs.lemmas.Str.Parse.{digit_from_value}
use Rattle.json.specs.Print.{quoted, escape, escape_byte, escape_letter}
use Rattle.json.proofs.Printed.Strings.{escape_byte_plain}
use Rattle.sha1.specs.Sha1.{sha1}
use Rattle.serde_json.specs.Data.{Data, Members, no_members, member}
use Rattle.serde_json.specs.Written.{compact_text, members_text, comma_if}
use Rattle.base_text.specs.Sum.{sum_text}
use Rattle.base_text.proofs.Sums.{length-sum_text}
use Rattle.base_text.proofs.Digests.{IsSum-sha1}
use Rattle.base_devices.specs.Order.{is_before}
use Rattle.base_model.specs.declared.clusters.Cluster.{Cluster}
use Rattle.base_model.specs.Text.{Text}
use Rattle.base_model.specs.InfoText.{Section, key_line, section_text, head, text_with, signed_text, info_text}
use Rattle.base_model.specs.Fields.{Field, with_field, with_fields, by_key, whole}
use Rattle.base_model.specs.InfoFiles.{IsCluster, cluster_fields, cluster_field, version_value}

-- ---- lists of texts

pub flat_length : {X : Type 0} (f : X → Text) (xs ys : List X) → length (flat_map f (xs ++ ys)) ≡ length (flat_map f xs) + length (flat_map f ys)
flat_length f [] ys = omega arith
flat_length f (x ∷ xs) ys = omega (arith, length-append (f x) (flat_map f (xs ++ ys)), length-append (f x) (flat_map f xs), flat_length f xs ys)

abbrev pub keys_length : List Field → ℕ
keys_length ks = length (flat_map key_line ks)

placed : (x k : Field) (xs more : List Field) → keys_length more ≡ keys_length xs + length (key_line k) → (b : Bool) → keys_length (if b then k ∷ x ∷ xs else x ∷ more) ≡ keys_length (x ∷ xs) + length (key_line k)
placed x k xs more h true = omega (arith, length-append (key_line k) (flat_map key_line (x ∷ xs)))
placed x k xs more h false = omega (arith, h, length-append (key_line x) (flat_map key_line more), length-append (key_line x) (flat_map key_line xs))

with_field_length : (ks : List Field) (k : Field) → keys_length (with_field ks k) ≡ keys_length ks + length (key_line k)
with_field_length [] k = omega (arith, length-append (key_line k) [])
with_field_length (x ∷ xs) k = placed x k xs (with_field xs k) (with_field_length xs k) (is_before k.0 x.0)

with_fields_push : (acc ks : List Field) (k : Field) → with_fields acc (ks ++ k ∷ []) ≡ with_field (with_fields acc ks) k
with_fields_push acc [] k = refl
with_fields_push acc (x ∷ xs) k = with_fields_push (with_field acc x) xs k

-- a history with one cluster more
pub history_length : (cs : List Cluster) (c : Cluster) → keys_length (by_key (map cluster_field (cs ++ c ∷ []))) ≡ keys_length (by_key (map cluster_field cs)) + length (key_line (cluster_field c))
history_length cs c =
    ap (λ (ks : List Field). keys_length (by_key ks)) (map-append cluster_field cs (c ∷ []))
    ∙ ap keys_length (with_fields_push [] (map cluster_field cs) (cluster_field c))
    ∙ with_field_length (by_key (map cluster_field cs)) (cluster_field c)

-- ---- the whole text

text_length : (digits : Text) (ss : List Section) → length (text_with digits ss) ≡ length (section_text head) + length (flat_map section_text ss) + length (codes "[backrest]\nbackrest-checksum=\"") + length digits + 2
unfolding text_with
text_length digits ss =
    omega (arith, length-append (section_text head ++ flat_map section_text ss) (codes "[backrest]\nbackrest-checksum=\"" ++ (digits ++ 34 ∷ 10 ∷ [])), length-append (section_text head) (flat_map section_text ss), length-append (codes "[backrest]\nbackrest-checksum=\"") (digits ++ 34 ∷ 10 ∷ []), length-append digits (34 ∷ 10 ∷ []))

digits_length : (ss : List Section) → length (sum_text (sha1 (signed_text ss))) ≡ 40
digits_length ss = omega (arith, length-sum_text (sha1 (signed_text ss)), (IsSum-sha1 (signed_text ss)).0)

-- sections of fewer bytes make a text of fewer bytes
pub fewer_bytes : (ss ts : List Section) → length (flat_map section_text ss) ≤ length (flat_map section_text ts) → length (info_text ss) ≤ length (info_text ts)
fewer_bytes ss ts le = omega (arith, le, text_length (sum_text (sha1 (signed_text ss))) ss, text_length (sum_text (sha1 (signed_text ts))) ts, digits_length ss, digits_length ts)

pub section_length : (s : Section) → length (section_text s) ≡ 4 + length s.name + keys_length s.keys
section_length s = omega (arith, length-append (91 ∷ (s.name ++ 93 ∷ 10 ∷ [])) (flat_map key_line s.keys ++ 10 ∷ []), length-append s.name (93 ∷ 10 ∷ []), length-append (flat_map key_line s.keys) (10 ∷ []))

-- ---- strings

chosen_some : (a b : Bool) (xs ys zs : List ℕ) → 1 ≤ length xs → 1 ≤ length ys → 1 ≤ length zs → 1 ≤ length (cond a xs (cond b ys zs))
chosen_some true b xs ys zs h g k = h
chosen_some false true xs ys zs h g k = g
chosen_some false false xs ys zs h g k = k

escape_byte_some : (x : ℕ) → 1 ≤ length (escape_byte x)
unfolding escape_byte
escape_byte_some x =
    chosen_some (nat_lt 0 (escape_letter x)) (nat_lt x 32) (92 ∷ escape_letter x ∷ [])
    (92 ∷ 117 ∷ 48 ∷ 48 ∷ digit_char (x / 16) ∷ digit_char (x % 16) ∷ []) (x ∷ [])
    (omega arith) (omega arith) (omega arith)

escape_low : (s : List ℕ) → length s ≤ length (escape s)
escape_low [] = omega arith
escape_low (x ∷ s) = omega (arith, length-append (escape_byte x) (escape s), escape_byte_some x, escape_low s)

quoted_low : (s : List ℕ) → 2 + length s ≤ length (quoted s)
quoted_low s = omega (arith, length-append (escape s) (34 ∷ []), escape_low s)

escape_digits : (ds : List ℕ) → AllDigits 10 ds → length (escape ds) ≡ length ds
escape_digits [] h = refl
escape_digits (c ∷ cs) h =
    let r = digit_from_value c h.0 in
    let one = ap length (escape_byte_plain c (λ e. omega arith) (λ e. omega arith) (omega arith)) in
    omega (arith, length-append (escape_byte c) (escape cs), one, escape_digits cs h.1)

-- the quoted digits of a number
quoted_decimal : (n : ℕ) → n < 2 ^ 64 → length (quoted (decimal n)) ≡ 2 + length (decimal n)
quoted_decimal n h = omega (arith, length-append (escape (decimal n)) (34 ∷ []), escape_digits (decimal n) (decimal_is_IsNumeral n h).0.1)

-- ---- a cluster's keys

line_length : (k : Field) → length (key_line k) ≡ length k.0 + 2 + length (compact_text k.1)
line_length k = omega (arith, length-append k.0 (61 ∷ (compact_text k.1 ++ 10 ∷ [])), length-append (compact_text k.1) (10 ∷ []))

keys_more : (k : Field) (ks : List Field) → keys_length (k ∷ ks) ≡ length k.0 + 2 + length (compact_text k.1) + keys_length ks
keys_more k ks = omega (arith, length-append (key_line k) (flat_map key_line ks), line_length k)

fields_length : (c : Cluster) → keys_length (cluster_fields c) ≡ 73 + length (decimal c.catalog) + length (decimal c.control) + length (decimal c.id) + length (decimal c.system) + length (quoted (decimal c.version))
fields_length c =
    let ver : List Field = (codes "db-version", version_value c.version) ∷ [] in
    let sys : List Field = (codes "db-system-id", whole c.system) ∷ ver in
    let num : List Field = (codes "db-id", whole c.id) ∷ sys in
    let ctl : List Field = (codes "db-control-version", whole c.control) ∷ num in
    omega (arith, keys_more (codes "db-catalog-version", whole c.catalog) ctl, keys_more (codes "db-control-version", whole c.control) num, keys_more (codes "db-id", whole c.id) sys, keys_more (codes "db-system-id", whole c.system) ver, keys_more (codes "db-version", version_value c.version) [])

fields_low : (c : Cluster) → 75 ≤ keys_length (cluster_fields c)
fields_low c = omega (arith, fields_length c, quoted_low (decimal c.version))

small_decimal : (n : ℕ) → n < 2 ^ 32 → length (decimal n) ≤ 10
small_decimal n h = length-decimal-le 10 n (lit< tt) (omega arith) (omega arith)

fields_high : (c : Cluster) → IsCluster c → keys_length (cluster_fields c) ≤ 135
fields_high c h = omega (arith, fields_length c, quoted_decimal c.version (omega (arith, h.version)), small_decimal c.catalog h.catalog, small_decimal c.control h.control, small_decimal c.id h.id, small_decimal c.version h.version, length-decimal-le 20 c.system (lit< tt) (omega arith) h.system)

member_low : (later : Bool) (k : Text) (d : Data) (ms : Members) → 3 + length k + length (members_text true ms) ≤ length (members_text later (member k d ms))
member_low later k d ms = omega (arith, length-append (comma_if later) (quoted k ++ 58 ∷ (compact_text d ++ members_text true ms)), length-append (quoted k) (58 ∷ (compact_text d ++ members_text true ms)), length-append (compact_text d) (members_text true ms), quoted_low k)

field_low : (c : Cluster) → 60 ≤ length (key_line (cluster_field c))
field_low c =
    let ver : Members = member (codes "db-version") (version_value c.version) no_members in
    let sys : Members = member (codes "db-system-id") (whole c.system) ver in
    let ctl : Members = member (codes "db-control-version") (whole c.control) sys in
    omega (arith, line_length (cluster_field c), member_low false (codes "db-catalog-version") (whole c.catalog) ctl, member_low true (codes "db-control-version") (whole c.control) sys, member_low true (codes "db-system-id") (whole c.system) ver, member_low true (codes "db-version") (version_value c.version) no_members)

-- a cluster in place of the current one takes no more than the entry of one in the history
pub current_length : (c d e : Cluster) → IsCluster d → keys_length (cluster_fields d) ≤ keys_length (cluster_fields c) + length (key_line (cluster_field e))
current_length c d e h = omega (arith, fields_low c, fields_high d h, field_low e)

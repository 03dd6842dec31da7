-- When a text spells a value.
use Rattle.std.proofs.Common.{◌≡◌, ℕ, Bool, true, false, ◌&&◌, not, List, Option, Some, None, option_and_then, IsUtf8, bytes_eq, refl, sym, ap, ◌∙◌, subst}
use Rattle.std.specs.Str.{is_utf8}
use Rattle.std.proofs.lemmas.Bool.{and_parts, not-true}
use Rattle.std.proofs.lemmas.Option.{cond_some}
use Rattle.std.proofs.lemmas.Str.{IsUtf8-from_is_utf8, is_utf8-from_IsUtf8}
use Rattle.std.proofs.lemmas.Slice.Eq.{bytes_eq-Decides}
use Rattle.serde_json.specs.Data.{Data}
use Rattle.serde_json.specs.Read.{read}
use Rattle.serde_json.specs.Written.{compact_text, has_float}
use Rattle.base_model.specs.Json.{IsOneLine, IsValue}
use Rattle.repo_ini.specs.Reading.{spelled_as, value_of}

none_by : (text : List ℕ) (b : Bool) → is_utf8 text ≡ b → (IsUtf8 text → read text ≡ None) → value_of text ≡ None
none_by text true e h = ap (option_and_then (spelled_as text)) (h (IsUtf8-from_is_utf8 text e))
none_by text false e h = no_value (read text) where
  no_value : (o : Option Data) → option_and_then (spelled_as text) o ≡ None
  no_value None = refl
  no_value (Some d) = rw e refl

pub none_from : (text : List ℕ) → (IsUtf8 text → read text ≡ None) → value_of text ≡ None
none_from text h = none_by text (is_utf8 text) refl h

pub some_from : (text : List ℕ) (d : Data) → IsUtf8 text → read text ≡ Some d → has_float d ≡ false → compact_text d ≡ text → value_of text ≡ Some d
some_from text d u r f e = rw (r, is_utf8-from_IsUtf8 text u, f, (bytes_eq-Decides (compact_text d) text).1 e) refl

pub value_of-compact_text : (d : Data) → IsValue d → value_of (compact_text d) ≡ Some d
value_of-compact_text d v = some_from (compact_text d) d v.utf8 v.reads v.no_float refl

read_value : (text : List ℕ) (d : Data) (o : Option Data) → read text ≡ o → IsOneLine text → option_and_then (spelled_as text) o ≡ Some d → IsValue d × (compact_text d ≡ text)
read_value text d None r line h = cc h
read_value text d (Some e) r line h =
    let p = cond_some (is_utf8 text && not (has_float e) && bytes_eq (compact_text e) text) e d h in
    let q = and_parts (is_utf8 text && not (has_float e)) (bytes_eq (compact_text e) text) p.0 in
    let u = and_parts (is_utf8 text) (not (has_float e)) q.0 in
    let same : compact_text e ≡ text = (bytes_eq-Decides (compact_text e) text).0 q.1 in
    let v : IsValue e = record { utf8 = subst IsUtf8 (sym same) (IsUtf8-from_is_utf8 text u.0); no_float = not-true (has_float e) u.1; one_line = subst IsOneLine (sym same) line; reads = ap read same ∙ r } in
    (subst IsValue p.1 v, ap compact_text (sym p.1) ∙ same)

pub value_of-is : (text : List ℕ) (d : Data) → IsOneLine text → value_of text ≡ Some d → IsValue d × (compact_text d ≡ text)
value_of-is text d line h = read_value text d (read text) refl line h

same_value : (text : List ℕ) (d : Data) (o : Option Data) → option_and_then (spelled_as text) o ≡ Some d → compact_text d ≡ text
same_value text d None h = cc h
same_value text d (Some e) h =
    let p = cond_some (is_utf8 text && not (has_float e) && bytes_eq (compact_text e) text) e d h in
    let q = and_parts (is_utf8 text && not (has_float e)) (bytes_eq (compact_text e) text) p.0 in
    ap compact_text (sym p.1) ∙ (bytes_eq-Decides (compact_text e) text).0 q.1

pub value_of-same : (text : List ℕ) (d : Data) → value_of text ≡ Some d → compact_text d ≡ text
value_of-same text d h = same_value text d (read text) h

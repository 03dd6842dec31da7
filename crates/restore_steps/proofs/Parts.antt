-- Texts that may be parts of a path, their length aside.
use Rattle.std.proofs.Common.{ℕ, Bool, true, false, not, ◌≡◌, ◌&&◌, refl, sym, ap, ◌∙◌, arith, List, [], ◌∷◌, ◌++◌, length, bytes_eq}
use Rattle.std.specs.Prelude.{◌==◌, IsUtf8, codes}
use Rattle.std.specs.List.{list_all, onto_first}
use Rattle.std.proofs.lemmas.Bool.{and_parts}
use Rattle.std.proofs.lemmas.List.Folds.{list_all-append}
use Rattle.std.proofs.lemmas.List.Splits.{slice_split-cons_yes, slice_split-cons_no, length-slice_split}
use Rattle.std.proofs.lemmas.Slice.Eq.{bytes_eq-Decides}
use Rattle.std.proofs.lemmas.Str.{IsUtf8-append}
use Rattle.json.proofs.Printed.Utf8.{IsUtf8-are_ascii}
use Rattle.base_model.specs.Text.{Text, ◌⫽◌}
use Rattle.base_model.specs.Paths.{elements, is_path_byte, is_element}
use Rattle.base_model.specs.InfoText.{begins_well}

pub record IsPart (t : Text) : Type 0 where
  pub utf8 : IsUtf8 t
  pub bytes : list_all is_path_byte t ≡ true
  pub held : list_all is_element (elements t) ≡ true

-- ---- elements

pub both : (a b : Bool) → a ≡ true → b ≡ true → a && b ≡ true
both a b x y = cc

all_true : (a b c d : Bool) → a ≡ true → b ≡ true → c ≡ true → d ≡ true → (a && b && c && d) ≡ true
all_true a b c d p q r s = rw (p, q, r, s) refl

pub each_true : (a b c d : Bool) → (a && b && c && d) ≡ true → (a ≡ true) × (b ≡ true) × (c ≡ true) × (d ≡ true)
each_true true true true true e = (refl, refl, refl, refl)
each_true true true true false e = absurd cc
each_true true true false d e = absurd cc
each_true true false c d e = absurd cc
each_true false b c d e = absurd cc

some_element : (t : Text) → elements t ≡ [] → ⊥
some_element t e = let count = length-slice_split (λ b. b == 47) t in let none : length (elements t) ≡ 0 = ap length e in omega (arith, count, none)

onto_append : (c : ℕ) (es fs : List Text) → (es ≡ [] → ⊥) → onto_first c (es ++ fs) ≡ onto_first c es ++ fs
onto_append c [] fs some = absurd (some refl)
onto_append c (e ∷ es) fs some = refl

elements_append : (prefix last : Text) → elements (prefix ⫽ last) ≡ elements prefix ++ elements last
elements_append [] last = slice_split-cons_yes (λ b. b == 47) 47 last refl
elements_append (c ∷ cs) last = by (c == 47) refl (elements_append cs last) where
  by : (b : Bool) → (c == 47) ≡ b → elements (cs ⫽ last) ≡ elements cs ++ elements last → elements ((c ∷ cs) ⫽ last) ≡ elements (c ∷ cs) ++ elements last
  by true is rest = slice_split-cons_yes (λ b. b == 47) c (cs ⫽ last) is ∙ ap (λ (es : List Text). [] ∷ es) rest ∙ sym (ap (λ (es : List Text). es ++ elements last) (slice_split-cons_yes (λ b. b == 47) c cs is))
  by false is rest = slice_split-cons_no (λ b. b == 47) c (cs ⫽ last) is ∙ ap (onto_first c) rest ∙ onto_append c (elements cs) (elements last) (some_element cs) ∙ sym (ap (λ (es : List Text). es ++ elements last) (slice_split-cons_no (λ b. b == 47) c cs is))

-- one part below another
pub joined : (a b : Text) → IsPart a → IsPart b → IsPart (a ⫽ b)
joined a b p q = record {
  utf8 = IsUtf8-append a (47 ∷ b) p.utf8 (IsUtf8-append (47 ∷ []) b (IsUtf8-are_ascii (47 ∷ []) refl) q.utf8);
  bytes = list_all-append is_path_byte a (47 ∷ b) ∙ both (list_all is_path_byte a) (list_all is_path_byte b) p.bytes q.bytes;
  held = ap (list_all is_element) (elements_append a b) ∙ list_all-append is_element (elements a) (elements b) ∙ both (list_all is_element (elements a)) (list_all is_element (elements b)) p.held q.held;
}

-- ---- one element

abbrev pub is_no_slash : ℕ → Bool
is_no_slash c = not (c == 47)

not_so : (b : Bool) → not b ≡ true → b ≡ false
not_so true e = sym e
not_so false e = refl

single : (t : Text) → list_all is_no_slash t ≡ true → elements t ≡ t ∷ []
single [] h = refl
single (c ∷ cs) h =
    let p = and_parts (is_no_slash c) (list_all is_no_slash cs) h in
    slice_split-cons_no (λ b. b == 47) c cs (not_so (c == 47) p.0) ∙ ap (onto_first c) (single cs p.1)

head : Text → ℕ
head [] = 0
head (c ∷ cs) = c

unlike : (c : ℕ) (cs : Text) (other : Text) → (c ≡ head other → ⊥) → not (bytes_eq (c ∷ cs) other) ≡ true
unfolding head
unlike c cs other off = by (bytes_eq (c ∷ cs) other) refl
  where
    by : (b : Bool) → bytes_eq (c ∷ cs) other ≡ b → not b ≡ true
    by true is = absurd (off (ap head ((bytes_eq-Decides (c ∷ cs) other).0 is)))
    by false is = refl

is_one : (c : ℕ) (cs : Text) → begins_well (c ∷ cs) ≡ true → (c ≡ 46 → ⊥) → is_element (c ∷ cs) ≡ true
unfolding head
is_one c cs well dot =
    let p = and_parts (not (c == 91)) (not (c == 35)) well in
    all_true (not (c == 91)) (not (c == 35)) (not (bytes_eq (c ∷ cs) (codes "."))) (not (bytes_eq (c ∷ cs) (codes ".."))) p.0 p.1 (unlike c cs (codes ".") dot) (unlike c cs (codes "..") dot)

-- an element of such bytes is a part
pub one_part : (c : ℕ) (cs : Text) → IsUtf8 (c ∷ cs) → list_all is_path_byte (c ∷ cs) ≡ true → list_all is_no_slash (c ∷ cs) ≡ true → begins_well (c ∷ cs) ≡ true → (c ≡ 46 → ⊥) → IsPart (c ∷ cs)
one_part c cs utf8 bytes slash well dot = record {
  utf8 = utf8;
  bytes = bytes;
  held = ap (list_all is_element) (single (c ∷ cs) slash) ∙ both (is_element (c ∷ cs)) true (is_one c cs well dot) refl;
}

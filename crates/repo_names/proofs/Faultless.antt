-- A path without a fault is one that a backup may hold, and the other way round.
use Rattle.std.proofs.Common.{◌≡◌, ℕ, true, false, List, [], ◌∷◌, length, refl, sym, ◌∙◌, arith}
use Rattle.std.specs.Prelude.{◌↔◌, ◌==◌, ◌||◌, nat_lt, IsUtf8}
use Rattle.std.specs.List.{list_any, list_all}
use Rattle.std.proofs.lemmas.Bool.Decides.{nat_tests}
use Rattle.base_model.specs.Text.{Text}
use Rattle.base_model.specs.Paths.{elements, is_path_byte, is_element, IsPath}
use Rattle.repo_names.specs.declared.paths.names.NameFault.{NameFault}
use Rattle.repo_names.specs.declared.paths.names.NameFault.TheVariants.{Empty, TooLong, Equals, Control, Head, Dots}
use Rattle.repo_names.specs.Faults.{has_mark, is_dots, has_fault, IsPathWithin}

-- the bytes of a path
bytes_pass : (cs : List ℕ) → list_any (λ c. c == 61) cs ≡ false → list_any (λ c. nat_lt c 32 || c == 127) cs ≡ false → list_all is_path_byte cs ≡ true
bytes_pass [] equals control = refl
bytes_pass (c ∷ cs) equals control = grind (arith, nat_tests, bytes_pass cs)

bytes_fail : (cs : List ℕ) → list_all is_path_byte cs ≡ true → (list_any (λ c. c == 61) cs ≡ false) × (list_any (λ c. nat_lt c 32 || c == 127) cs ≡ false)
bytes_fail [] all = (refl, refl)
bytes_fail (c ∷ cs) all = grind (arith, nat_tests, bytes_fail cs)

one_passes : (e : Text) → (length e == 0) ≡ false → has_mark e ≡ false → is_dots e ≡ false → is_element e ≡ true
one_passes [] empty mark dots = absurd (grind arith)
one_passes (c ∷ cs) empty mark dots = grind (arith, nat_tests)

one_fails : (e : Text) → is_element e ≡ true → ((length e == 0) ≡ false) × (has_mark e ≡ false) × (is_dots e ≡ false)
one_fails [] good = absurd (grind arith)
one_fails (c ∷ cs) good = grind (arith, nat_tests)

elements_pass : (es : List Text) → list_any (λ e. length e == 0) es ≡ false → list_any has_mark es ≡ false → list_any is_dots es ≡ false → list_all is_element es ≡ true
elements_pass [] empty mark dots = refl
elements_pass (e ∷ es) empty mark dots = grind (arith, nat_tests, one_passes e, elements_pass es)

elements_fail : (es : List Text) → list_all is_element es ≡ true → (list_any (λ e. length e == 0) es ≡ false) × (list_any has_mark es ≡ false) × (list_any is_dots es ≡ false)
elements_fail [] all = (refl, refl, refl)
elements_fail (e ∷ es) all = grind (arith, nat_tests, one_fails e, elements_fail es)

pub is_path : (limit : ℕ) (path : Text) → IsUtf8 path → ((fault : NameFault) → has_fault limit fault path ≡ false) → IsPathWithin limit path
is_path limit path utf8 none = record {
  utf8 = utf8;
  short = grind (arith, nat_tests, none TooLong);
  bytes = bytes_pass path (none Equals) (none Control);
  elements_hold = elements_pass (elements path) (none Empty) (none Head) (none Dots);
}

is_faultless : (limit : ℕ) (path : Text) → IsPathWithin limit path → (fault : NameFault) → has_fault limit fault path ≡ false
is_faultless limit path good Empty = (elements_fail (elements path) good.elements_hold).0
is_faultless limit path good TooLong = grind (arith, nat_tests, good.short)
is_faultless limit path good Equals = (bytes_fail path good.bytes).0
is_faultless limit path good Control = (bytes_fail path good.bytes).1
is_faultless limit path good Head = (elements_fail (elements path) good.elements_hold).1
is_faultless limit path good Dots = (elements_fail (elements path) good.elements_hold).2

-- what is answered for a path with a fault
pub is_refused : (limit : ℕ) (path : Text) (fault : NameFault) → has_fault limit fault path ≡ true → (false ≡ true → IsPathWithin limit path) × (IsPathWithin limit path → false ≡ true)
is_refused limit path fault has = (λ e. absurd cc, λ good. sym (is_faultless limit path good fault) ∙ has)

-- the same with 1,024 bytes, for a data folder
pub in_folder : (path : Text) → IsPathWithin 1024 path ↔ IsPath path
in_folder path = (λ p. record { utf8 = p.utf8; short = p.short; bytes = p.bytes; elements_hold = p.elements_hold }, λ p. record { utf8 = p.utf8; short = p.short; bytes = p.bytes; elements_hold = p.elements_hold })

-- A number's digits, as a reader sees them.
use Rattle.std.proofs.Common.{◌≡◌, ◌≢◌, ℕ, zero, suc, ◌<◌, ◌^◌, true, List, [], ◌∷◌, length, get_or, Result, Ok, Err, refl, sym, ap, ◌∙◌, arith}
use Rattle.std.specs.Prelude.{IfSome, IfNone}
use Rattle.std.specs.Fmt.{decimal}
use Rattle.std.specs.Result.{result_ok}
use Rattle.std.specs.Str.{IsUtf8}
use Rattle.std.specs.Str.Parse.{AllDigits, digits_value, ParsesUnsigned}
use Rattle.std.proofs.lemmas.Str.{IsUtf8-from_ascii}
use Rattle.std.proofs.lemmas.Fmt.{decimal_nonempty, first_decimal, decimal_digit, IsAscii-decimal, parse-decimal, decimal-digits_value}
use Rattle.std.proofs.lemmas.Str.Parse.{IsNumeralModel, numerals_by_value, tells_digits, parse_plain}
use Rattle.base_text.specs.Decimal.{is_plain}

pub digits : IsNumeralModel (AllDigits 10) (digits_value 10)
digits = numerals_by_value (AllDigits 10) tells_digits

by_first : (bs : List ℕ) → 0 < length bs → 48 < get_or bs 0 0 → is_plain bs ≡ true
by_first [] h f = absurd (omega arith)
by_first (c ∷ cs) h f = grind (arith)

pub is_plain-decimal : (n : ℕ) → n < 2 ^ 64 → is_plain (decimal n) ≡ true
is_plain-decimal zero h = rw (decimal_digit 0 (omega arith)) refl
is_plain-decimal (suc n) h = by_first (decimal (suc n)) (decimal_nonempty (suc n) h) (first_decimal (suc n) (omega arith) h)

pub IsUtf8-decimal : (n : ℕ) → n < 2 ^ 64 → IsUtf8 (decimal n)
IsUtf8-decimal n h = IsUtf8-from_ascii (decimal n) (IsAscii-decimal n h)

plain_parts : (bs : List ℕ) → is_plain bs ≡ true → (0 < length bs) × (get_or bs 0 0 ≢ 43) × (get_or bs 0 0 ≡ 48 → length bs ≡ 1)
plain_parts [] h = cc h
plain_parts (c ∷ cs) h = (omega arith, grind (arith), grind (arith))

pub read_is : {E : Type 0} (bs : List ℕ) (r : Result ℕ E) → is_plain bs ≡ true → ParsesUnsigned 64 10 bs r → IfSome (result_ok r) (λ n. bs ≡ decimal n)
read_is {E} bs (Ok x) plain p =
    let parts = plain_parts bs plain in
    let ok = parse_plain digits {E = E} 64 bs (Ok x) p parts.1 in
    let fits : digits_value 10 bs < 2 ^ 64 = ok.0.2 in
    sym (ap decimal ok.1 ∙ decimal-digits_value digits bs ok.0.0 parts.0 parts.2 fits)
read_is bs (Err e) plain p = tt

pub read_none : {E : Type 0} (bs : List ℕ) (r : Result ℕ E) → ParsesUnsigned 64 10 bs r → IfNone (result_ok r) ((n : ℕ) → n < 2 ^ 64 → bs ≢ decimal n)
read_none bs (Ok x) p = tt
read_none {E} bs (Err e) p = λ n h same. cc (parse-decimal {E = E} 64 n bs (Err e) h h same p)

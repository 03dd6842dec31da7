-- Texts and contents, both as lists of bytes, and maps by them.
use Rattle.std.specs.Prelude.{◌≡◌, ◌⊎◌, ℕ, zero, suc, ◌+◌, ◌-◌, ◌*◌, ◌/◌, ◌%◌, ◌==◌, nat_lt, List, [], ◌∷◌, ◌++◌, if◌then◌else◌}
use Rattle.std.specs.declared.cmp.Ordering.{Ordering}
use Rattle.std.specs.Ordering.{nat_cmp}
use Rattle.std.specs.Cmp.Lexicographic.{slice_cmp}
use Rattle.std.specs.FinMap as map

-- a text or a file's content, by its bytes
abbrev pub Text : Type 0
Text = List ℕ

-- byte order
abbrev pub text_cmp : Text → Text → Ordering
text_cmp = slice_cmp nat_cmp

-- a finite map by text
abbrev pub Map : Type 0 → Type 0
Map X = map.FinMap text_cmp X

-- a name below a folder
infixr 65 ◌⫽◌
abbrev pub ◌⫽◌ : Text → Text → Text
folder ⫽ name = folder ++ 47 ∷ name

-- x is in the list
abbrev pub In : {X : Type 0} → X → List X → Type 0
In x [] = ⊥
In x (y ∷ ys) = (x ≡ y) ⊎ In x ys

-- one digit in upper case
abbrev pub hex_digit : ℕ → ℕ
hex_digit n = if nat_lt n 10 then 48 + n else 65 + (n - 10)

-- the last n hexadecimal digits of a number
unfoldable pub hex_upper : ℕ → ℕ → Text
hex_upper zero v = []
hex_upper (suc n) v = hex_upper n (v / 16) ++ hex_digit (v % 16) ∷ []

-- the number of these bytes, the lowest first
abbrev pub little_endian : Text → ℕ
little_endian [] = 0
little_endian (b ∷ bs) = b + 256 * little_endian bs

-- without the zeros in front, except with one digit
abbrev pub without_zeros : Text → Text
without_zeros [] = []
without_zeros (c ∷ []) = c ∷ []
without_zeros (c ∷ d ∷ ds) = if c == 48 then without_zeros (d ∷ ds) else c ∷ d ∷ ds

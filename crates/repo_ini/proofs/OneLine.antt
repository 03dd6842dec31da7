-- Texts with no newline.
use Rattle.std.proofs.Common.{◌≡◌, ◌==◌, ◌&&◌, not, ℕ, Bool, true, false, List, [], ◌∷◌, ◌++◌}
use Rattle.std.proofs.lemmas.Bool.{and_parts, not-true}
use Rattle.std.proofs.lemmas.List.Elements.{All-nil, All-cons, All-append}
use Rattle.base_model.specs.Json.{IsOneLine}

abbrev other : ℕ → Type 0
other b = (b == 10) ≡ false

pub line_nil : IsOneLine []
line_nil = All-nil other

pub line_then : (b : ℕ) (xs : List ℕ) → (b == 10) ≡ false → IsOneLine xs → IsOneLine (b ∷ xs)
line_then b xs h g = All-cons other b xs h g

pub line_append : (xs ys : List ℕ) → IsOneLine xs → IsOneLine ys → IsOneLine (xs ++ ys)
line_append xs ys h g = All-append other xs ys h g

abbrev pub no_break : List ℕ → Bool
no_break [] = true
no_break (b ∷ bs) = not (b == 10) && no_break bs

pub line_by : (xs : List ℕ) → no_break xs ≡ true → IsOneLine xs
line_by [] h = line_nil
line_by (x ∷ xs) h = let p = and_parts (not (x == 10)) (no_break xs) h in line_then x xs (not-true (x == 10) p.0) (line_by xs p.1)

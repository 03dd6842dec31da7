-- Byte order of names: that of their bytes as unsigned numbers, a shorter one before its extensions.
use Rattle.std.specs.Prelude.{ℕ, Bool, true, false, ◌&&◌, List, [], ◌∷◌}
use Rattle.std.specs.Ordering.{nat_cmp, match_ordering}
use Rattle.std.specs.Cmp.Lexicographic.{slice_cmp}

-- a comes before b
abbrev pub is_before : List ℕ → List ℕ → Bool
is_before a b = match_ordering (slice_cmp nat_cmp a b) true false false

-- each name comes after the one before it, and all come after `last`
abbrev pub are_after : List ℕ → List (List ℕ) → Bool
are_after last [] = true
are_after last (n ∷ ns) = is_before last n && are_after n ns

-- the names are in byte order, each once
abbrev pub are_in_order : List (List ℕ) → Bool
are_in_order [] = true
are_in_order (n ∷ ns) = are_after n ns

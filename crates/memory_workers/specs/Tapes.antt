-- Bytes that are given in order. Own.
use Rattle.std.specs.Prelude.{ℕ, List, ◌++◌, take, drop}

-- the bytes that were given, and those that are still to come
pub record Given : Type 0 where
  pub given : List ℕ
  pub rest : List ℕ

-- this many of the bytes were given
abbrev pub tape_of : List ℕ → ℕ → Given
tape_of bytes at = record { given = take at bytes; rest = drop at bytes }

-- this many more were given
abbrev pub given_more : ℕ → Given → Given
given_more n g = record { given = g.given ++ take n g.rest; rest = drop n g.rest }

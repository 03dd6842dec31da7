-- The columns of a row: a count, then for each a length and its text, or -1 (PostgreSQL manual, "DataRow").
use Rattle.std.specs.Prelude.{ℕ, suc, zero, ◌+◌, ◌==◌, nat_lt, List, [], ◌∷◌, ◌++◌, length, take, drop, Option, Some, None, Result, Ok, Err, if◌then◌else◌}
use Rattle.std.specs.Int.{w16, w32, from_be_bytes}
use Rattle.std.specs.Str.{is_utf8}
use Rattle.base_model.specs.Text.{Text}
use Rattle.server_talk.specs.Fault.{Fault, form, ◌>>=◌}

-- the columns so far, and what is left of the row from its place on
pub record Left : Type 0 where
  pub cells : List (Option Text)
  pub at : ℕ
  pub rest : List ℕ

abbrev pub text_cell : Left → ℕ → List ℕ → List ℕ → Result Left Fault
text_cell l n text rest = if is_utf8 text then Ok
    (record { cells = l.cells ++ Some text ∷ []; at = l.at + 4 + n; rest = rest }) else Err (form (l.at + 4))

-- a length of -1 is NULL
abbrev pub sized_cell : Left → ℕ → List ℕ → Result Left Fault
sized_cell l n s = if n == 4294967295 then Ok
    (record { cells = l.cells ++ None ∷ []; at = l.at + 4; rest = s }) else if nat_lt (length s) n then Err
    (form l.at) else text_cell l n (take n s) (drop n s)

abbrev pub next_cell : Left → Result Left Fault
next_cell l = if nat_lt (length l.rest) 4 then Err (form l.at) else sized_cell l (from_be_bytes w32 (take 4 l.rest))
    (drop 4 l.rest)

-- this many more columns, and nothing after them
abbrev pub cells_of : ℕ → Left → Result (List (Option Text)) Fault
cells_of zero l = if length l.rest == 0 then Ok l.cells else Err (form l.at)
cells_of (suc n) l = next_cell l >>= λ m. cells_of n m

-- the columns of a row that has this many
abbrev pub cells : ℕ → ℕ → List ℕ → Result (List (Option Text)) Fault
cells columns at body = if nat_lt (length body) 2 then Err (form at) else if from_be_bytes w16 (take 2 body)
    == columns then cells_of columns (record { cells = []; at = at + 2; rest = drop 2 body }) else Err (form at)

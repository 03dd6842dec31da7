-- What the stand-in answers: messages, one row for each query that a backup asks (PostgreSQL manual, "Message Formats";
-- own which values).
use Rattle.std.specs.Prelude.{ℕ, ◌+◌, ◌||◌, List, [], ◌∷◌, ◌++◌, length, true, false, codes, bytes_eq, if◌then◌else◌}
use Rattle.std.specs.List.{flat_map}
use Rattle.std.specs.Int.{w16, w32, to_be_bytes}
use Rattle.base_model.specs.Text.{Text}
use Rattle.server_talk.specs.Rows.{system_query, start_query, stop_query}

-- a message: a kind, a length that counts itself, a body
unfoldable pub spell : ℕ → List ℕ → List ℕ
spell kind body = kind ∷ (to_be_bytes w32 (length body + 4) ++ body)

-- R: no password is asked for. Z: the server is idle.
abbrev pub greeting : List ℕ
greeting = spell 82 (0 ∷ 0 ∷ 0 ∷ 0 ∷ []) ++ spell 90 (73 ∷ [])

-- a column's description: it has no name and no table, and is of the type text
abbrev pub column : Text → List ℕ
column text = 0 ∷ 0 ∷ 0 ∷ 0 ∷ 0 ∷ 0 ∷ 0 ∷ 0 ∷ 0 ∷ 0 ∷ 25 ∷ 255 ∷ 255 ∷ 255 ∷ 255 ∷ 255 ∷ 255 ∷ 0 ∷ 0 ∷ []

-- a column's length and text
abbrev pub cell : Text → List ℕ
cell text = to_be_bytes w32 (length text) ++ text

-- a count of columns, and then this of each
abbrev pub each : (Text → List ℕ) → List Text → List ℕ
each of texts = to_be_bytes w16 (length texts) ++ flat_map of texts

-- T, D, C and Z: the description of the columns, the row, the end of the command and of the answer
unfoldable pub row : List Text → List ℕ
row texts = spell 84 (each column texts)
    ++ (spell 68 (each cell texts) ++ (spell 67 (codes "SELECT 1" ++ 0 ∷ []) ++ spell 90 (73 ∷ [])))

-- E: a code and a text
unfoldable pub refusal : List ℕ
refusal = spell 69 (67 ∷ (codes "0A000" ++ (0 ∷ 77 ∷ (codes "not known" ++ (0 ∷ 0 ∷ [])))))

-- a query's answer
abbrev pub answer_to : Text → List ℕ
answer_to text = if bytes_eq text system_query then row (codes "6917529027641081857" ∷ codes "1048576" ∷ [])
    else if bytes_eq text (start_query false)
    || bytes_eq text (start_query true) then row (codes "0/200028" ∷ codes "000000010000000000000002" ∷ [])
    else if bytes_eq text stop_query then row
    (codes "0/200100" ∷ codes "000000010000000000000002" ∷ codes "LABEL\n" ∷ [] ∷ [])
    else refusal

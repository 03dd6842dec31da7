-- Texts in a body, each ended by 0, and the fields of an error: a byte and a text each, then 0 (PostgreSQL manual,
-- "Error and Notice Message Fields").
use Rattle.std.specs.Prelude.{ℕ, ◌+◌, ◌&&◌, ◌==◌, Bool, true, List, [], ◌∷◌, length, take, position, unwrap_or, if◌then◌else◌}
use Rattle.std.specs.Str.{is_utf8}
use Rattle.base_model.specs.Text.{Text}

-- the bytes up to the first 0
abbrev pub until_zero : List ℕ → List ℕ
until_zero bytes = take (unwrap_or (position (λ b. b == 0) bytes) (length bytes)) bytes

-- one text, whose 0 is the last byte
abbrev pub is_one_text : List ℕ → Bool
is_one_text bytes = length (until_zero bytes) + 1 == length bytes

-- the bytes after the first field of this kind's own byte; the flag says that a field begins here
abbrev pub from_field : ℕ → Bool → List ℕ → List ℕ
from_field kind starts [] = []
from_field kind starts (b ∷ bs) = if starts && (b == kind) then bs else if starts
    && (b == 0) then [] else from_field kind (b == 0) bs

-- bytes that aren't UTF-8 are reported as the empty text
abbrev pub or_empty : List ℕ → Text
or_empty bytes = if is_utf8 bytes then bytes else []

-- the text of the first field of this kind, empty where there is none
abbrev pub field : ℕ → List ℕ → Text
field kind body = or_empty (until_zero (from_field kind true body))

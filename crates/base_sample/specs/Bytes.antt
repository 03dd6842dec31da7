-- The files of a sample cluster, and the segments of its log. Own; the control file's front as PostgreSQL 16 writes it
-- (PostgreSQL manual, "pg_controldata").
use Rattle.std.specs.Prelude.{ℕ, zero, suc, ◌+◌, ◌*◌, ◌%◌, [], ◌∷◌, ◌++◌, codes, decimal, replicate}
use Rattle.base_model.specs.Text.{Text}

-- ---- paths

-- the file of the server's version (PostgreSQL documentation, "Database File Layout")
abbrev pub version_path : Text
version_path = codes "PG_VERSION"

-- the control file (PostgreSQL documentation, "Database File Layout")
abbrev pub control_path : Text
control_path = codes "global/pg_control"

-- the relation file of this place
unfoldable pub relation_path : ℕ → Text
relation_path i = codes "base/5/" ++ decimal (16384 + i)

-- ---- bytes

-- this many bytes 0
unfoldable pub zeros : ℕ → Text
zeros n = replicate n 0

-- the first n bytes of a relation file: byte j of the file of place i is (i + j) mod 251
unfoldable pub pattern : ℕ → ℕ → Text
pattern i zero = []
pattern i (suc n) = pattern i n ++ (i + n) % 251 ∷ []

-- this many blocks of 512 bytes, none to sixteen
unfoldable pub relation_bytes : ℕ → Text
relation_bytes i = pattern i ((i % 17) * 512)

abbrev pub version_bytes : Text
version_bytes = codes "16\n"

-- system 6917529027641081857, control version 1300, catalog version 202307071
abbrev pub control_prefix : Text
control_prefix = 1 ∷ 0 ∷ 0 ∷ 0 ∷ 0 ∷ 0 ∷ 0 ∷ 96 ∷ 20 ∷ 5 ∷ 0 ∷ 0 ∷ 255 ∷ 245 ∷ 14 ∷ 12 ∷ []

unfoldable pub control_bytes : Text
control_bytes = control_prefix ++ zeros 8176

-- a long header of the same system and 1 MiB
abbrev pub segment_prefix : Text
segment_prefix = 0 ∷ 0 ∷ 2 ∷ 0 ∷ 0 ∷ 0 ∷ 0 ∷ 0 ∷ 0 ∷ 0 ∷ 0 ∷ 0 ∷ 0 ∷ 0 ∷ 0 ∷ 0 ∷ 0 ∷ 0 ∷ 0 ∷ 0 ∷ 0 ∷ 0 ∷ 0 ∷ 0 ∷ 1 ∷ 0
    ∷ 0 ∷ 0 ∷ 0 ∷ 0 ∷ 0 ∷ 96 ∷ 0 ∷ 0 ∷ 16 ∷ 0 ∷ []

-- a segment of 1 MiB with this last byte
unfoldable pub segment_bytes : ℕ → Text
segment_bytes last = segment_prefix ++ zeros 1048539 ++ last ∷ []

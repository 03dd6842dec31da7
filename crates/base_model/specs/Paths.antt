-- Paths in a data folder that a backup may hold.
use Rattle.std.specs.Prelude.{◌≡◌, ℕ, ◌≤◌, ◌==◌, ◌&&◌, not, nat_lt, Bool, true, false, List, [], ◌∷◌, length, codes, IsUtf8, bytes_eq}
use Rattle.std.specs.List.{slice_split, list_all}
use Rattle.base_model.specs.Text.{Text}

-- what the slashes separate
abbrev pub elements : Text → List Text
elements path = slice_split (λ b. b == 47) path

-- neither a control character nor `=`
abbrev pub is_path_byte : ℕ → Bool
is_path_byte c = not (nat_lt c 32) && not (c == 127) && not (c == 61)

-- not empty, without `[` or `#` in front, and neither `.` nor `..`
abbrev pub is_element : Text → Bool
is_element [] = false
is_element (c ∷ cs) = not (c == 91) && not (c == 35) && not (bytes_eq (c ∷ cs) (codes "."))
    && not (bytes_eq (c ∷ cs) (codes ".."))

-- a path of at most 1,024 bytes (own)
pub record IsPath (path : Text) : Type 0 where
  pub utf8 : IsUtf8 path
  pub short : length path ≤ 1024
  pub bytes : list_all is_path_byte path ≡ true
  pub elements_hold : list_all is_element (elements path) ≡ true

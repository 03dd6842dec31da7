-- What keeps a path out of a backup, and which fault is reported for a path with several.
use Rattle.std.specs.Prelude.{◌≡◌, ℕ, ◌<◌, ◌≤◌, ◌==◌, ◌||◌, nat_lt, Bool, true, false, [], ◌∷◌, length, codes, bytes_eq, IsUtf8}
use Rattle.std.specs.List.{list_any, list_all}
use Rattle.base_model.specs.Text.{Text}
use Rattle.base_model.specs.Paths.{elements, is_path_byte, is_element}
use Rattle.repo_names.specs.declared.paths.names.NameFault.{NameFault}
use Rattle.repo_names.specs.declared.paths.names.NameFault.TheVariants.{Empty, TooLong, Equals, Control, Head, Dots}

-- it begins with `[` or `#`
abbrev pub has_mark : Text → Bool
has_mark [] = false
has_mark (c ∷ cs) = c == 91 || c == 35

-- it is `.` or `..`
abbrev pub is_dots : Text → Bool
is_dots element = bytes_eq element (codes ".") || bytes_eq element (codes "..")

-- a path of at most this many bytes; with 1,024 it is `IsPath`
pub record IsPathWithin (limit : ℕ) (path : Text) : Type 0 where
  pub utf8 : IsUtf8 path
  pub short : length path ≤ limit
  pub bytes : list_all is_path_byte path ≡ true
  pub elements_hold : list_all is_element (elements path) ≡ true

-- the path, which may have this many bytes, has this fault
abbrev pub has_fault : ℕ → NameFault → Text → Bool
has_fault limit Empty path = list_any (λ e. length e == 0) (elements path)
has_fault limit TooLong path = nat_lt limit (length path)
has_fault limit Equals path = list_any (λ c. c == 61) path
has_fault limit Control path = list_any (λ c. nat_lt c 32 || c == 127) path
has_fault limit Head path = list_any has_mark (elements path)
has_fault limit Dots path = list_any is_dots (elements path)

-- the order in which faults are reported
abbrev pub place : NameFault → ℕ
place Empty = 0
place TooLong = 1
place Equals = 2
place Control = 3
place Head = 4
place Dots = 5

-- the first fault of a path that may have this many bytes
pub record IsFirstFault (limit : ℕ) (path : Text) (fault : NameFault) : Type 0 where
  pub has : has_fault limit fault path ≡ true
  pub first : (other : NameFault) → place other < place fault → has_fault limit other path ≡ false

-- the first fault of a path in a data folder
abbrev pub IsNameFault : Text → NameFault → Type 0
IsNameFault = IsFirstFault 1024

-- Reading an info text, piece by piece.
use Rattle.std.specs.Prelude.{ℕ, ◌+◌, ◌-◌, ◌&&◌, ◌==◌, not, nat_lt, List, [], ◌∷◌, ◌++◌, length, take, drop, slice_index, fold, codes, bytes_eq, Option, Some, None, option_map, option_and_then, Result, Ok, Err, if◌then◌else◌}
use Rattle.std.specs.Borrow.{Bor}
use Rattle.std.specs.List.{position}
use Rattle.std.specs.Option.{option_map_or}
use Rattle.std.specs.Str.{is_utf8}
use Rattle.sha1.specs.Sha1.{sha1}
use Rattle.serde_json.specs.Data.{Data}
use Rattle.serde_json.specs.Read.{read}
use Rattle.serde_json.specs.Written.{compact_text, has_float}
use Rattle.base_text.specs.Sum.{read_sum}
use Rattle.base_devices.specs.Order.{is_before}
use Rattle.base_model.specs.InfoText.{Section, head_name, signed_text, is_key, is_name, has_keys}
use Rattle.repo_ini.specs.Form.{pieces, Fault, syntax, sum}

-- the pieces of what is left, where something is
abbrev pub rest_pieces : Option (Bor (List ℕ)) → List (List ℕ)
rest_pieces None = []
rest_pieces (Some rest) = pieces rest.now

-- ---- the parts of a piece

-- what comes before the first such byte, and after it
abbrev pub cut_at : ℕ → List ℕ → Option (List ℕ × List ℕ)
cut_at c xs = option_map (λ i. (take i xs, drop (i + 1) xs)) (position (λ b. b == c) xs)

-- the name of `[name]`
abbrev pub name_in : List ℕ → Option (List ℕ)
name_in piece = if nat_lt 1 (length piece) && (slice_index piece 0 == 91)
    && (slice_index piece (length piece - 1) == 93) then Some (take (length piece - 2) (drop 1 piece)) else None

abbrev pub check_start : List ℕ
check_start = codes "backrest-checksum=\""

-- the sum of `backrest-checksum="digits"`
abbrev pub sum_in : List ℕ → Option (List ℕ)
sum_in piece = if (length piece == 60) && bytes_eq (take 19 piece) check_start
    && (slice_index piece 59 == 34) then read_sum (take 40 (drop 19 piece)) else None

-- the value, where this is its one text
abbrev pub spelled_as : List ℕ → Data → Option Data
spelled_as text d = if is_utf8 text && not (has_float d) && bytes_eq (compact_text d) text then Some d else None

-- the value whose one text this is
abbrev pub value_of : List ℕ → Option Data
value_of text = option_and_then (spelled_as text) (read text)

-- ---- the states

-- what has been read: the sections that are done, and of the one that isn't its name and keys
pub data State : Type 0 where
  start : State
  format : State
  gap : State
  between : (done : List Section) → State
  within : (done : List Section) (name : List ℕ) (keys : List (List ℕ × Data)) → State
  check : (done : List Section) → State
  closing : (done : List Section) (known : List ℕ) → State
  over : (done : List Section) (known : List ℕ) → State

abbrev pub last_name : List Section → List ℕ
last_name done = fold (λ _ s. s.name) head_name done

abbrev pub last_key : List (List ℕ × Data) → List ℕ
last_key keys = fold (λ _ k. k.0) [] keys

-- a section begins
abbrev pub opened : List Section → List ℕ → Option State
opened done name = if is_utf8 name && is_name name
    && is_before (last_name done) name then Some (within done name []) else None

-- a section ends
abbrev pub closed : List Section → List ℕ → List (List ℕ × Data) → Option State
closed done name keys = if has_keys keys then Some
    (between (done ++ record { name = name; keys = keys } ∷ [])) else None

-- one more key
abbrev pub more : List Section → List ℕ → List (List ℕ × Data) → List ℕ × List ℕ → Option State
more done name keys k = if is_utf8 k.0 && is_key k.0
    && is_before (last_key keys) k.0 then option_map (λ d. within done name (keys ++ (k.0, d) ∷ []))
    (value_of k.1) else None

-- the state after one more piece, where a text can continue so
abbrev pub step : State → List ℕ → Option State
step start p = if bytes_eq p (codes "[backrest]") then Some format else None
step format p = if bytes_eq p (codes "backrest-format=5") then Some gap else None
step gap p = if bytes_eq p [] then Some (between []) else None
step (between done) p = if bytes_eq p (codes "[backrest]") then Some (check done) else option_and_then (opened done)
    (name_in p)
step (within done name keys) p = if bytes_eq p [] then closed done name keys else option_and_then (more done name keys)
    (cut_at 61 p)
step (check done) p = option_map (closing done) (sum_in p)
step (closing done known) p = if bytes_eq p [] then Some (over done known) else None
step (over done known) p = None

-- the state after these pieces, the first of which is line n; or the first line at which no text continues so
abbrev pub run : State → ℕ → List (List ℕ) → Result State Fault
run s n [] = Ok s
run s n (p ∷ ps) = option_map_or (λ t. run t (n + 1) ps) (step s p) (Err (syntax n))

-- the sections, where the text has ended and its sum is right
abbrev pub ended : ℕ → State → Result (List Section) Fault
ended lines start = Err (syntax lines)
ended lines format = Err (syntax lines)
ended lines gap = Err (syntax lines)
ended lines (between done) = Err (syntax lines)
ended lines (within done name keys) = Err (syntax lines)
ended lines (check done) = Err (syntax lines)
ended lines (closing done known) = Err (syntax lines)
ended lines (over done known) = if bytes_eq known (sha1 (signed_text done)) then Ok done else Err
    (sum known (sha1 (signed_text done)))

infixl 10 ◌>>=◌
abbrev pub ◌>>=◌ : {A B : Type 0} → Result A Fault → (A → Result B Fault) → Result B Fault
(Ok x) >>= f = f x
(Err e) >>= f = Err e

abbrev pub read_text : List ℕ → Result (List Section) Fault
read_text bytes = run start 1 (pieces bytes) >>= ended (length (pieces bytes))

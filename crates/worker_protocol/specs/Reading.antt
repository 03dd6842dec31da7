-- Reading a frame from left to right, and the first fault that is met.
use Rattle.std.specs.Prelude.{◌≡◌, ℕ, zero, suc, Bool, List, [], ◌∷◌, ◌+◌, ◌-◌, ◌==◌, ◌||◌, ◌&&◌, length, take, drop, slice_index, Option, Some, None, Result, Ok, Err, nat_lt, nat_le, if◌then◌else◌, ◌<◌, ◌⊎◌}
use Rattle.std.specs.List.{list_all}
use Rattle.std.specs.Str.{is_utf8}
use Rattle.std.specs.Int.{Width, w16, w32, w64, byte_len, from_be_bytes}
use Rattle.base_model.specs.Text.{Text}
use Rattle.base_model.specs.Paths.{elements, is_path_byte, is_element}
use Rattle.worker_protocol.specs.declared.frames.frames.Root.{Root}
use Rattle.worker_protocol.specs.declared.frames.frames.Root.TheVariants.{DataFolder, Repo}
use Rattle.worker_protocol.specs.declared.frames.frames.JobKind.{JobKind}
use Rattle.worker_protocol.specs.declared.frames.frames.JobKind.TheVariants.{Read, Digest}
use Rattle.worker_protocol.specs.declared.frames.fault.FrameFault.{FrameFault}
use Rattle.worker_protocol.specs.declared.frames.fault.FrameFault.TheVariants.{Short, Form, TooLong, NoMemory}
use Rattle.worker_protocol.specs.Frames.{Item, Frame, spell, part_size, job_limit, repo_limit}
use Rattle.worker_protocol.specs.Frames.Frame.{Setup, Task, Part, End, Vanished, Unread}

infixl 10 ◌>>=◌
-- the first fault of two readings, one after the other
abbrev pub ◌>>=◌ : {A B : Type 0} → Result A FrameFault → (A → Result B FrameFault) → Result B FrameFault
(Ok x) >>= f = f x
(Err e) >>= f = Err e

-- What a function returned, as view sees it, is what reading gives, unless memory ran out.
abbrev pub Fails : {Y : Type 0} → FrameFault → Result Y FrameFault → Type 0
Fails Short read = read ≡ Err Short
Fails (Form at) read = read ≡ Err (Form at)
Fails (TooLong n) read = read ≡ Err (TooLong n)
Fails NoMemory read = Unit {0}

abbrev pub Gives : {X Y : Type 0} → (X → Y) → Result X FrameFault → Result Y FrameFault → Type 0
Gives view (Ok x) read = read ≡ Ok (view x)
Gives view (Err e) read = Fails e read

-- what is left of a body: how much by its length, and the bytes that are there
pub record Rest : Type 0 where
  pub left : ℕ
  pub bytes : Text

-- The next field, of this many bytes, of a body that ends at end. One that the body cuts short is a fault once the
-- bytes reach the body's end.
abbrev pub field_at : ℕ → ℕ → Rest → Result (Text × Rest) FrameFault
field_at size end rest =
    if nat_le size rest.left
    then (if nat_lt (length rest.bytes) size then Err Short else Ok
    (take size rest.bytes, record { left = rest.left - size; bytes = drop size rest.bytes }))
    else (if nat_lt (length rest.bytes) rest.left then Err Short else Err (Form (end - rest.left)))

unfoldable pub number_at : Width → ℕ → Rest → Result (ℕ × Rest) FrameFault
number_at w end rest = do
  f ← field_at (byte_len w) end rest
  Ok (from_be_bytes w f.0, f.1)

abbrev pub chosen : {X : Type 0} → ℕ → Rest → Option X → Result (X × Rest) FrameFault
chosen at after None = Err (Form at)
chosen at after (Some x) = Ok (x, after)

-- a letter that represents a value
unfoldable pub letter_at : {X : Type 0} → (ℕ → Option X) → ℕ → Rest → Result (X × Rest) FrameFault
letter_at value end rest = do
  letter ← field_at 1 end rest
  chosen (end - rest.left) letter.1 (value (slice_index letter.0 0))

-- a text after its length, which has to pass the test
unfoldable pub text_at : (Text → Bool) → ℕ → Rest → Result (Text × Rest) FrameFault
text_at is_good end rest = do
  n ← number_at w16 end rest
  text ← field_at n.0 end n.1
  if is_good text.0 then Ok text else Err (Form (end - n.1.left))

abbrev pub root_value : ℕ → Option Root
root_value b = if b == 84 then Some DataFolder else if b == 82 then Some Repo else None

abbrev pub kind_value : ℕ → Option JobKind
kind_value b = if b == 82 then Some Read else if b == 68 then Some Digest else None

abbrev pub path_limit : Root → ℕ
path_limit DataFolder = 1024
path_limit Repo = repo_limit

-- whether it is the path of an item
abbrev pub is_item_path : Root → Text → Bool
is_item_path root path = is_utf8 path && nat_le (length path) (path_limit root) && list_all is_path_byte path
    && list_all is_element (elements path)

-- the path of an item of this root, after its length
abbrev pub item_path_at : Root → ℕ → Rest → Result (Text × Rest) FrameFault
item_path_at root end rest = text_at (is_item_path root) end rest

unfoldable pub item_at : ℕ → Rest → Result (Item × Rest) FrameFault
item_at end rest = do
  root ← letter_at root_value end rest
  path ← text_at (is_item_path root.0) end root.1
  at ← number_at w64 end path.1
  size ← number_at w64 end at.1
  Ok (record { root = root.0; path = path.0; at = at.0; size = size.0 }, size.1)

unfoldable pub items_at : ℕ → ℕ → Rest → Result (List Item × Rest) FrameFault
items_at zero end rest = Ok ([], rest)
items_at (suc n) end rest = do
  first ← item_at end rest
  others ← items_at n end first.1
  Ok (first.0 ∷ others.0, others.1)

unfoldable pub job_at : ℕ → Rest → Result (Frame × Rest) FrameFault
job_at end rest = do
  kind ← letter_at kind_value end rest
  count ← number_at w32 end kind.1
  if count.0 == 0
      then Err (Form (end - kind.1.left))
      else (items_at count.0 end count.1 >>= λ items. Ok (Task (record { kind = kind.0; items = items.0 }), items.1))

unfoldable pub setup_at : ℕ → Rest → Result (Frame × Rest) FrameFault
setup_at end rest = do
  tree ← text_at is_utf8 end rest
  repo ← text_at is_utf8 end tree.1
  Ok (Setup (record { tree = tree.0; repo = repo.0 }), repo.1)

unfoldable pub end_at : ℕ → Rest → Result (Frame × Rest) FrameFault
end_at end rest = do
  n ← number_at w64 end rest
  sum ← field_at 20 end n.1
  Ok (End n.0 sum.0, sum.1)

-- the whole body, of a byte or more
unfoldable pub part_at : ℕ → Rest → Result (Frame × Rest) FrameFault
part_at end rest =
    if rest.left == 0
    then Err (Form (end - rest.left))
    else (field_at rest.left end rest >>= λ f. Ok (Part f.0, f.1))

-- a body by its type
unfoldable pub body_at : ℕ → ℕ → Rest → Result (Frame × Rest) FrameFault
body_at type end rest =
    if type == 83 then setup_at end rest
    else if type == 74 then (if nat_lt job_limit rest.left then Err (TooLong rest.left) else job_at end rest)
    else if type == 80 then (if nat_lt part_size rest.left then Err (TooLong rest.left) else part_at end rest)
    else if type == 69 then end_at end rest
    else if type == 86 then Ok (Vanished, rest)
    else Ok (Unread, rest)

abbrev pub is_type : ℕ → Bool
is_type b = b == 83 || b == 74 || b == 80 || b == 69 || b == 86 || b == 85

-- nothing of the body is left
abbrev pub whole : {A : Type 0} → ℕ → A × Rest → Result (A × ℕ) FrameFault
whole end x = if x.1.left == 0 then Ok (x.0, end) else Err (Form (end - x.1.left))

-- the frame at the front of the bytes, and its length
unfoldable pub frame_at : Text → Result (Frame × ℕ) FrameFault
frame_at [] = Err Short
frame_at (type ∷ bytes) =
    if is_type type
    then (if nat_lt (length bytes) 4 then Err Short
    else (body_at type (5 + from_be_bytes w32 (take 4 bytes))
    (record { left = from_be_bytes w32 (take 4 bytes); bytes = drop 4 bytes }) >>= whole
    (5 + from_be_bytes w32 (take 4 bytes))))
    else Err (Form 0)

-- what reading gives where the bytes begin with this frame
abbrev pub read_as : Frame → Result (Frame × ℕ) FrameFault
read_as frame = Ok (frame, length (spell frame))

-- there is no whole length, or fewer bytes than the frame has by it
abbrev pub IsCutShort : Text → Type 0
IsCutShort bytes = (length bytes < 5) ⊎ (length bytes < 5 + from_be_bytes w32 (take 4 (drop 1 bytes)))

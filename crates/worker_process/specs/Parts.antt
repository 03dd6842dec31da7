-- What is read and written of an item, over the values of the program (own).
use Rattle.std.specs.Prelude.{◌≡◌, ◌⊎◌, ◌+◌, ◌-◌, ℕ, Bool, false, drop, take, length, Option, Some, Result, IfSome, string_bytes}
use Rattle.base_devices.specs.Cause.{Rises}
use Rattle.base_devices.specs.Content.{Content, ReadsPart}
use Rattle.base_devices.specs.States.{OutputState}
use Rattle.base_model.specs.Text.{Text}
use Rattle.worker_protocol.specs.declared.frames.frames.Item.{Item}
use Rattle.worker_protocol.specs.declared.frames.frames.JobKind.{JobKind}
use Rattle.worker_protocol.specs.Replies.{payload}
use Rattle.worker_protocol.specs.Views.{item_of}
use Rattle.worker_process.specs.declared.serve_fault.ServeFault.{ServeFault}
use Rattle.worker_process.specs.Answers.{part_frames, FillsPart, IsNextPart, KnownItem}
use Rattle.worker_process.specs.Writing.{Writes}

-- this many bytes were read of the file of this name after those that the buffer has, where the folder is known
abbrev pub ReadsOn : Option Content → Text → ℕ → ℕ → Text → Text → ℕ → Type 0
ReadsOn files name at have old new n = IfSome files
    (λ f. IfSome (f name) (λ b. ReadsPart b (at + have) (length old - have) (drop have new) n))

-- the part of the item's file was filled in, where the folder is known
abbrev pub FillsPartOf : Option Content → Item → ℕ → Text → Option ℕ → Type 0
FillsPartOf files item known room answer =
    IfSome files (λ f. FillsPart (f (string_bytes item.path)) (item_of item) known room answer)

-- this many bytes are the next part of the item's file, after one of this many bytes, where the folder is known
abbrev pub IsNextPartOf : Option Content → Item → ℕ → ℕ → Text → ℕ → Type 0
IsNextPartOf files item known last room n = IfSome files
    (λ f. (bytes : Text) → f (string_bytes item.path) ≡ Some bytes
    → IsNextPart (drop known (payload (item_of item) bytes)) last (drop 5 room) n)

-- the frames of this many bytes after the room for their head were written
abbrev pub WritesPart : Result (Unit {0}) ServeFault → JobKind → ℕ → Text → OutputState → OutputState → Type 0
WritesPart result kind count room old new = Writes result (part_frames kind (take count (drop 5 room))) old.written
    new.written

-- The item was answered by its folder, where that is known. The first three words say what a folder holds, its count of
-- faults, and what was written; then come the folder and the output, before and after.
abbrev pub ItemAnswered : {F O : Type 0} → Result Bool ServeFault → (F → Option Content) → (F → ℕ) → (O → OutputState)
    → JobKind → Item → F → O → F → O → Type 0
ItemAnswered result content faults state kind item files out after then_out = IfSome (content files)
    (λ f. KnownItem kind (item_of item) (f (string_bytes item.path)) (Rises (faults files) (faults after)) result
    (state out).written (state then_out).written)

-- the same where the folder may not have been opened
abbrev pub Answered : {F O : Type 0} → Bool → Result Bool ServeFault → (F → Option Content) → (F → ℕ)
    → (O → OutputState) → JobKind → Item → F → O → F → O → Type 0
Answered is_open result content faults state kind item files out after then_out = IfSome (content files)
    (λ f. KnownItem kind (item_of item) (f (string_bytes item.path))
    ((is_open ≡ false) ⊎ Rises (faults files) (faults after)) result (state out).written (state then_out).written)

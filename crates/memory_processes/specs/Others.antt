-- What is known of other processes in memory.
use Rattle.std.specs.Prelude.{◌≡◌, ℕ, Bool, true, List, [], ◌∷◌, ◌++◌, Option, Some, None, String, is_ok, map, string_bytes, take}
use Rattle.std.specs.declared.alloc.Global.{Global}
use Rattle.base_devices.specs.States.{DiskState}
use Rattle.base_model.specs.Text.{Text}
use Rattle.archive_lookup.specs.Turns.{Turned, Account, ProcessesState, GoesByTurn, GivesReceipts, LeavesMarks}
use Rattle.memory_processes.specs.declared.turn.OtherPush.{OtherPush}
use Rattle.memory_processes.specs.declared.turn.OtherTurn.{OtherTurn}
use Rattle.memory_processes.specs.declared.turn.Came.{Came}
use Rattle.memory_processes.specs.Pushing.{turn_of, marks_of}

-- a step of others in which nothing is pushed
abbrev pub idle_turn : Turned
idle_turn = record { turn = record { id = record { version = 0; number = 0 }; pushed = []; ended = true }; marks = [] }

-- the step of others with its push, by the result of it
abbrev pub pushed_by : Text → Option OtherPush → Bool → Bool → Turned
pushed_by stanza None tried ended = idle_turn
pushed_by stanza (Some p) tried ended =
    record {
      turn = turn_of p.id p.segment p.bytes.items tried ended;
      marks = marks_of stanza p.segment p.bytes.items tried ended;
    }

abbrev pub turned_by : Text → OtherTurn → Turned
turned_by stanza t = pushed_by stanza t.push t.tried t.ended

-- a step of others with this result
abbrev pub after_push : OtherTurn → Came → OtherTurn
after_push t came = record { push = t.push; tried = came.tried; ended = is_ok came.done }

-- this many steps of others in which nothing is pushed
abbrev pub idle_turns : List ℕ → List Turned
idle_turns [] = []
idle_turns (n ∷ ns) = idle_turns ns ++ idle_turn ∷ []

-- their account has the first steps of the list, as many as were taken, and those after the list
abbrev pub account_of : Text → List OtherTurn → ℕ → List ℕ → Account
account_of stanza list at following = record {
  stanza = stanza;
  turns = map (turned_by stanza) (take at list) ++ idle_turns following;
}

-- ---- their state

-- they push for this stanza, and no step was taken
abbrev pub HasNoTurns : String Global → ProcessesState → Type 0
HasNoTurns stanza state = state ≡ record {
  account = Some (record { stanza = string_bytes stanza; turns = [] });
  turns = 0;
  started = Some [];
  faults = 0;
}

-- the same is known of both
abbrev pub IsSameState : {A : Type 0} → (A → ProcessesState) → A → A → Type 0
IsSameState others old new = others new ≡ others old

-- ---- a step of others with this result

-- the repository changes by it
abbrev pub TurnGoes : Text → OtherTurn → Came → DiskState → DiskState → Type 0
TurnGoes stanza t came old new = GoesByTurn stanza (turned_by stanza (after_push t came)).turn old.view new.view

-- at each moment each receipt of the spool is an earlier one, or of a file that it stored
abbrev pub TurnGives : {D S : Type 0} → (D → DiskState) → (S → DiskState) → Text → OtherTurn → Came → D → D → S → S
    → Type 0
TurnGives disk spooled stanza t came repo new_repo spool new_spool =
    GivesReceipts stanza (turned_by stanza (after_push t came)).turn (disk repo).view (disk new_repo).view
    (spooled spool).view (spooled new_spool).view

-- the spool has its marks
abbrev pub TurnMarks : {S : Type 0} → (S → DiskState) → Text → OtherTurn → Came → S → S → Type 0
TurnMarks spooled stanza t came old new = LeavesMarks stanza (turned_by stanza (after_push t came)).marks
    (spooled old).view.now (spooled new).view.now

-- What a call does that takes the repository on by a command. Own.
use Rattle.std.specs.Prelude.{◌≡◌, ◌≤◌, true, Option, Result, IsSome, OnOk}
use Rattle.base_devices.specs.Content.{Content}
use Rattle.base_devices.specs.Moments.{View}
use Rattle.base_devices.specs.States.{DataFolderState}
use Rattle.base_model.specs.Now.{NowRepresents, NowEffect}
use Rattle.base_model.specs.Repository.{Repository, IsSound}
use Rattle.base_model.specs.Steps.{Command, after, all_of, steps_of}
use Rattle.base_model.specs.Text.{Text}
use Rattle.cmd_types.specs.declared.stages.plan.SyncScope.TheVariants.{Whole}
use Rattle.cmd_types.specs.DisksEffect.{DoesPart, DoesWhole}

-- whatever sound repository the disk represents, it is sound after all of the command's steps
abbrev pub StaysSound : Text → Command → Option Content → Type 0
StaysSound stanza command now = (r : Repository) → IsSome now → NowRepresents stanza r now → IsSound r
    → IsSound (after r (all_of (steps_of command r)))

-- A part of the command's steps, at each moment; at Ok all of them, and a sound repository stays sound.
pub record Advances {T E : Type 0} (stanza : Text) (command : Command) (result : Result T E) (old new : View) : Type
    0 where
  pub part : DoesPart Whole stanza command old new
  pub whole : OnOk result (DoesWhole Whole stanza command old new)
  pub sound : OnOk result (StaysSound stanza command old.now)

-- A part of the command's steps, at each moment; at Ok all of them.
pub record Carries {T E : Type 0} (stanza : Text) (command : Command) (result : Result T E) (old new : View) : Type
    0 where
  pub part : DoesPart Whole stanza command old new
  pub whole : OnOk result (DoesWhole Whole stanza command old new)

-- this holds of what the disk held after all of this command
pub record Had (stanza : Text) (command : Command) (old : Option Content) (P : Option Content → Type 0) : Type 0 where
  pub now : Option Content
  pub done : NowEffect stanza command true old now
  pub holds : P now

-- a call that opens no data folder anew
pub record StaysOpen (old new : DataFolderState) : Type 0 where
  pub opened : new.opened ≡ old.opened
  pub later : old.faults ≤ new.faults

-- What the program answers and does, from the arguments on.
use Rattle.std.specs.Prelude.{◌≡◌, ◌≢◌, ◌⊎◌, ◌+◌, ℕ, List, [], Option, Ok}
use Rattle.base_crash_lists.specs.Beside.{KeepsOthers}
use Rattle.base_model.specs.Text.{Text}
use Rattle.options_read.specs.declared.usage.Usage.{Usage}
use Rattle.options_read.specs.Settings.{Resolved}
use Rattle.cmd_types.specs.declared.stages.object.Object.TheVariants.{Config, Output}
use Rattle.cmd_types.specs.World.{World, Failed}
use Rattle.cmd_trait.specs.declared.fault.Fault.{Fault}
use Rattle.cmd_trait.specs.CallEffect.{IsIdle, Carries, Cause, OpensPlaces as OpensPlacesAt, OnlyLocked as OnlyLockedAt}
use Rattle.cmd_trait.specs.Ends.{status_of}
use Rattle.cmd_trait.specs.Follows.{EndsWell, Fulfils, TurnsBack, Finishes as FinishesAt, PartDone as PartDoneAt, LeavesRest as LeavesRestAt}
use Rattle.cmd_trait.specs.KnownWorld.{known_world}
use Rattle.cmd_trait.specs.Meaning.{TurnsKnown, IsEarly, IsServerRefusal, EndsTalk}
use Rattle.cmd_trait.specs.Output.{IsPrinted}
use Rattle.program_run.specs.Asked.{Asked, asked, ArgumentsResolve, MayAsk}
use Rattle.program_run.specs.Configuring.{ConfigCause}
use Rattle.program_run.specs.Refusals.{refusal_status, refusal_lines}

-- a refusal is printed, with the warnings before it
abbrev pub PrintsRefusal : List Text → Fault Usage → World → World → ℕ → Type 0
PrintsRefusal unknown fault before after result =
    IsPrinted before.out.written (refusal_lines unknown fault) (refusal_status fault) after.out.written
    (Failed before after Output) result

-- Arguments that don't resolve to a command do nothing: the configuration was read, and what refused them is reported.
pub record Refuses (arguments : List Text) (before after : World) (result : ℕ) : Type 0 where
  pub fault : Fault Usage
  pub cause : ConfigCause arguments before.config.files (Failed before after Config) fault
  pub idle : IsIdle before after
  pub printed : PrintsRefusal [] fault before after result

-- What the resolved arguments ask for is done and reported.
abbrev pub Obeys : Resolved → World → World → ℕ → Type 0
Obeys s before after result = Carries (asked s).at (asked s).means s.warnings before after result

-- The arguments are refused, or they resolve to a command, which is obeyed.
abbrev pub Answers : List Text → World → World → ℕ → Type 0
Answers arguments before after result = Refuses arguments before after result
    ⊎ ((s : Resolved) × ArgumentsResolve arguments before.config.files (Ok s) × Obeys s before after result)

-- Where no cause of a refusal holds, and the output didn't fail, the command succeeded, or memory ran out.
abbrev pub Completes : List Text → World → World → ℕ → Type 0
Completes arguments before after result =
    ((fault : Fault Usage) → refusal_status fault ≢ 90
    → ¬ ConfigCause arguments before.config.files (Failed before after Config) fault)
    → ((s : Resolved) (fault : Fault (asked s).fault) → MayAsk arguments before.config.files s
    → status_of (asked s).means fault ≢ 90 → ¬ Cause (asked s).at (asked s).means before after fault)
    → ¬ Failed before after Output → EndsWell result ⊎ (result ≡ 90)

-- After a server's answer that is refused the last message to it is the end, unless the connection failed. At 70 and 71
-- it may have been something else that was too long or too many, and then nothing was sent.
abbrev pub ClosesTalk : World → World → ℕ → Type 0
ClosesTalk before after result = IsServerRefusal result
    → EndsTalk (known_world before) (known_world after) (Failed before after) result

-- ---- what follows for a command that is asked for

-- at 0 all is done (cmd_trait has each of these words, by place and meaning)
abbrev pub Finishes : Asked → World → World → Type 0
Finishes a before after = FinishesAt a.at a.means before after

-- a part of its steps is, at its end and at each moment
abbrev pub PartDone : Asked → World → World → Type 0
PartDone a before after = PartDoneAt a.at a.means before after

-- with this status it turned back, where that is one of a command that ends before its own first step
abbrev pub StaysAt : ℕ → Asked → World → World → Type 0
StaysAt result a before after = IsEarly result → TurnsBack a.at a.means before after result

-- with this status it kept its promise, where that is one of a command that succeeded
abbrev pub FulfilsAt : ℕ → Asked → World → World → Type 0
FulfilsAt result a before after = EndsWell result → Fulfils a.at a.means before after result

-- what it may not change is unchanged
abbrev pub LeavesRest : Asked → World → World → Type 0
LeavesRest a before after = LeavesRestAt a.at a.means before after

-- of every other stanza in form all stayed, where what others did meanwhile is known
abbrev pub LeavesOthers : Asked → World → World → Type 0
LeavesOthers a before after = TurnsKnown a.at a.means (known_world after)
    → KeepsOthers a.at.stanza before.repo.view after.repo.view

-- no places but those that it names were opened
abbrev pub OpensPlaces : Asked → World → World → Type 0
OpensPlaces a before after = OpensPlacesAt a.at a.means before after

-- without its locks nothing was done
abbrev pub OnlyLocked : Asked → World → World → Type 0
OnlyLocked a before after = OnlyLockedAt a.at a.means before after

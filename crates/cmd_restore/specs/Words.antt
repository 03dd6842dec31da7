-- The values of the options `set` and `target`.
use Rattle.std.specs.Prelude.{ℕ, ◌≡◌, ◌≢◌, true, false, Option, Some, None}
use Rattle.base_model.specs.declared.labels.Label.{Label}
use Rattle.base_model.specs.InfoFiles.{IsLabel}
use Rattle.base_model.specs.Names.{label_text}
use Rattle.base_model.specs.Text.{Text}
use Rattle.repo_names.specs.Lsn.{IsLsn}
use Rattle.restore_choice.specs.declared.choice.Choice.{Choice}
use Rattle.restore_choice.specs.declared.choice.Choice.TheVariants.{Labelled, Last}
use Rattle.restore_choice.specs.declared.choice.Deadline.{Deadline}
use Rattle.restore_choice.specs.declared.choice.Deadline.TheVariants.{Moment, Position as UpTo}
use Rattle.restore_target.specs.Moments.{IsMomentText}
use Rattle.restore_target.specs.Targets.{is_transaction, is_restore_point}
use Rattle.cmd_restore.specs.declared.fault.RestoreCommandFault.{RestoreCommandFault}
use Rattle.cmd_restore.specs.declared.fault.RestoreCommandFault.TheVariants.{SetForm, TargetForm}
use Rattle.cmd_restore.specs.declared.order.TargetKind.{TargetKind}
use Rattle.cmd_restore.specs.declared.order.TargetKind.TheVariants.{Time, Position, Transaction, RestorePoint}
use Rattle.cmd_restore.specs.declared.order.Timeline.{Timeline}
use Rattle.cmd_restore.specs.declared.order.Timeline.TheVariants.{Number}
use Rattle.cmd_restore.specs.Fetching.{RecoveryType}
use Rattle.cmd_restore.specs.Fetching.RecoveryType.{FromArchive, Without}
use Rattle.cmd_restore.specs.Targets.{RecoveryEnd}
use Rattle.cmd_restore.specs.Targets.RecoveryEnd.{AtTarget}

-- ---- the label

-- a label that is asked for keeps the rules of labels
abbrev pub IsSet : Option Label → Type 0
IsSet None = Unit {0}
IsSet (Some l) = IsLabel l

-- no label is asked for, or the one of which this value is the text
abbrev pub ShowsSet : Option Text → Option Label → Type 0
ShowsSet None None = Unit {0}
ShowsSet (Some word) (Some l) = word ≡ label_text l
ShowsSet set label = ⊥

-- the value is the text of no label
abbrev pub IsNoLabel : Option Text → Type 0
IsNoLabel None = ⊥
IsNoLabel (Some word) = (l : Label) → IsLabel l → word ≢ label_text l

-- ---- the target

-- the deadline of a target of time is this moment
abbrev pub IsTimeOf : Text → Option Deadline → Type 0
IsTimeOf text (Some (Moment second)) = IsMomentText text second
IsTimeOf text other = ⊥

-- and that of a position of the log is this one
abbrev pub IsPositionOf : Text → Option Deadline → Type 0
IsPositionOf text (Some (UpTo at)) = IsLsn text at.0
IsPositionOf text other = ⊥

-- the text has the form of a target of this kind; and this is the deadline that it sets for a backup
abbrev pub ShowsKind : TargetKind → Text → Option Deadline → Type 0
ShowsKind Time text deadline = IsTimeOf text deadline
ShowsKind Position text deadline = IsPositionOf text deadline
ShowsKind Transaction text deadline = (is_transaction text ≡ true) × (deadline ≡ None)
ShowsKind RestorePoint text deadline = (is_restore_point text ≡ true) × (deadline ≡ None)

abbrev pub ShowsEnd : RecoveryEnd → Option Deadline → Type 0
ShowsEnd (AtTarget t) deadline = ShowsKind t.kind t.text deadline
ShowsEnd other deadline = deadline ≡ None

-- a target has its form; and this is the deadline that it sets for a backup
abbrev pub ShowsDeadline : RecoveryType → Option Deadline → Type 0
ShowsDeadline (FromArchive r) deadline = ShowsEnd r.end deadline
ShowsDeadline Without deadline = deadline ≡ None

-- the text is no target of this kind
abbrev pub IsNoKind : TargetKind → Text → Type 0
IsNoKind Time text = (second : ℕ) → ¬ IsMomentText text second
IsNoKind Position text = (at : ℕ) → ¬ IsLsn text at
IsNoKind Transaction text = is_transaction text ≡ false
IsNoKind RestorePoint text = is_restore_point text ≡ false

abbrev pub IsNoEnd : RecoveryEnd → Type 0
IsNoEnd (AtTarget t) = IsNoKind t.kind t.text
IsNoEnd other = ⊥

abbrev pub IsNoTarget : RecoveryType → Type 0
IsNoTarget (FromArchive r) = IsNoEnd r.end
IsNoTarget Without = ⊥

-- ---- both

-- the number of a timeline, where that is asked for by its number
abbrev pub named_number : Option Timeline → Option ℕ
named_number (Some (Number n)) = Some n
named_number other = None

abbrev pub number_of : RecoveryType → Option ℕ
number_of (FromArchive r) = named_number r.timeline
number_of Without = None

-- the backup of the label that is asked for; else the last one by the deadline and the timeline
abbrev pub choice_of : Option Label → Option Deadline → Option ℕ → Choice
choice_of (Some label) deadline timeline = Labelled label
choice_of None deadline timeline = Last (record { deadline = deadline; timeline = timeline })

-- a choice by the values
pub record ShowsChoice (set : Option Text) (recovery : RecoveryType) (choice : Choice) : Type 0 where
  pub label : Option Label
  pub is_label : ShowsSet set label
  pub deadline : Option Deadline
  pub is_deadline : ShowsDeadline recovery deadline
  pub is : choice ≡ choice_of label deadline (number_of recovery)

-- why the arguments are refused
abbrev pub WordCause : Option Text → RecoveryType → RestoreCommandFault → Type 0
WordCause set recovery SetForm = IsNoLabel set
WordCause set recovery TargetForm = IsNoTarget recovery
WordCause set recovery other = ⊥

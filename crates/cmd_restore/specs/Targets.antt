-- Where a recovery ends, and the settings that say so (PostgreSQL manual, "Recovery Target" and "Parameter Names and
-- Values").
use Rattle.std.specs.Prelude.{ℕ, ◌==◌, ◌||◌, Bool, true, false, List, [], ◌∷◌, ◌++◌, map, codes, decimal, Vec, Option, Some, None, if◌then◌else◌}
use Rattle.std.specs.Option.{option_map_or}
use Rattle.std.specs.declared.alloc.Global.{Global}
use Rattle.base_model.specs.Text.{Text}
use Rattle.repo_ini.specs.Reading.{cut_at}
use Rattle.cmd_restore.specs.declared.order.TargetKind.{TargetKind}
use Rattle.cmd_restore.specs.declared.order.TargetKind.TheVariants.{Time, Position, Transaction, RestorePoint}
use Rattle.cmd_restore.specs.declared.order.TargetAction.{TargetAction}
use Rattle.cmd_restore.specs.declared.order.TargetAction.TheVariants.{Pause, Promote, Shutdown}
use Rattle.cmd_restore.specs.declared.order.Timeline.{Timeline}
use Rattle.cmd_restore.specs.declared.order.Timeline.TheVariants.{Current, Latest, Number}
use Rattle.cmd_restore.specs.declared.order.RecoveryTarget as rust_target
use Rattle.cmd_restore.specs.declared.order.RecoveryEnd as rust
use Rattle.cmd_restore.specs.declared.order.RecoveryEnd.TheVariants as of_rust

-- up to where a server recovers, as the arguments have it; whether it stops before; and what it does then
pub record Target : Type 0 where
  pub kind : TargetKind
  pub text : Text
  pub exclusive : Bool
  pub action : TargetAction

-- at the end of the archive; as soon as the backup is consistent; at a target; or nowhere, as a standby
pub data RecoveryEnd : Type 0 where
  Archive : RecoveryEnd
  Consistent : (action : TargetAction) → RecoveryEnd
  AtTarget : (target : Target) → RecoveryEnd
  Standby : RecoveryEnd

abbrev pub target_of : rust_target.RecoveryTarget → Target
target_of t = record { kind = t.kind; text = t.text.now; exclusive = t.exclusive; action = t.action }

abbrev pub end_of : rust.RecoveryEnd → RecoveryEnd
end_of of_rust.Archive = Archive
end_of (of_rust.Consistent action) = Consistent action
end_of (of_rust.Target target) = AtTarget (target_of target)
end_of of_rust.Standby = Standby

-- ---- the settings, a line each

-- a quote or a backslash occurs twice in a value
abbrev pub escaped_byte : ℕ → Text
escaped_byte c = if (c == 39) || (c == 92) then c ∷ c ∷ [] else c ∷ []

abbrev pub escaped : Text → Text
escaped [] = []
escaped (c ∷ cs) = escaped_byte c ++ escaped cs

abbrev pub setting : Text → Text → Text
setting name value = name ++ codes " = '" ++ escaped value ++ 39 ∷ []

abbrev pub target_name : TargetKind → Text
target_name Time = codes "recovery_target_time"
target_name Position = codes "recovery_target_lsn"
target_name Transaction = codes "recovery_target_xid"
target_name RestorePoint = codes "recovery_target_name"

abbrev pub inclusive_lines : Bool → List Text
inclusive_lines exclusive =
    if exclusive then setting (codes "recovery_target_inclusive") (codes "false") ∷ [] else []

abbrev pub end_lines : RecoveryEnd → List Text
end_lines (Consistent action) = setting (codes "recovery_target") (codes "immediate") ∷ []
end_lines (AtTarget t) = setting (target_name t.kind) t.text ∷ inclusive_lines t.exclusive
end_lines other = []

abbrev pub timeline_text : Timeline → Text
timeline_text Current = codes "current"
timeline_text Latest = codes "latest"
timeline_text (Number n) = decimal n

-- the timeline in force: to be consistent, a backup needs no other than its own
abbrev pub timeline_for : RecoveryEnd → Option Timeline → Option Timeline
timeline_for end (Some timeline) = Some timeline
timeline_for (Consistent action) None = Some Current
timeline_for other None = None

abbrev pub timeline_lines : Option Timeline → List Text
timeline_lines None = []
timeline_lines (Some timeline) = setting (codes "recovery_target_timeline") (timeline_text timeline) ∷ []

-- a server pauses where nothing is said
abbrev pub action_lines : TargetAction → List Text
action_lines Pause = []
action_lines Promote = setting (codes "recovery_target_action") (codes "promote") ∷ []
action_lines Shutdown = setting (codes "recovery_target_action") (codes "shutdown") ∷ []

abbrev pub action_of : RecoveryEnd → TargetAction
action_of (Consistent action) = action
action_of (AtTarget t) = t.action
action_of other = Pause

-- a setting of one's own, `name=value`: what comes before the first `=` is its name
abbrev pub own_setting : Text → Text
own_setting text = option_map_or (λ (cut : Text × Text). setting cut.0 cut.1) (cut_at 61 text) (setting text [])

-- all of them: those of one's own come last, since of two lines of one setting a server takes the last
abbrev pub settings_of : RecoveryEnd → Option Timeline → List Text → List Text
settings_of end timeline own = end_lines end ++ timeline_lines (timeline_for end timeline)
    ++ action_lines (action_of end) ++ map own_setting own

-- the lines that the code has
abbrev pub lines_in : Vec (Vec ℕ Global) Global → List Text
lines_in lines = map (λ line. line.items) lines.items

abbrev pub is_standby : RecoveryEnd → Bool
is_standby Standby = true
is_standby other = false

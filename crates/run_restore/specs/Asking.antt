-- What a restore is asked by the settings in force (pgBackRest command reference, "Restore Command").
use Rattle.std.specs.Prelude.{◌≡◌, Bool, true, false, List, [], map, Option, Some, None, option_map, unwrap_or, string_bytes}
use Rattle.base_model.specs.Text.{Text}
use Rattle.options_table.specs.declared.table.Opt.TheVariants.{Pg1Path, Repo1Path, Config, Set, Delta, ProcessMax, RestoreType, Target, TargetExclusive, TargetAction as ActionOption, TargetTimeline, RecoveryOption}
use Rattle.options_read.specs.declared.options.Options.{Options}
use Rattle.options_read.specs.declared.options.RestoreWord.{RestoreWord}
use Rattle.options_read.specs.declared.options.RestoreWord.TheVariants.{Default, Plain, Time, Lsn, Xid, Name, Immediate, Standby}
use Rattle.options_read.specs.declared.options.ActionWord.{ActionWord}
use Rattle.options_read.specs.declared.options.ActionWord.TheVariants as words
use Rattle.options_read.specs.declared.options.TimelineWord.{TimelineWord}
use Rattle.options_read.specs.declared.options.TimelineWord.TheVariants as timeline_words
use Rattle.options_read.specs.Filled.{AreOptions, text_in, is_denied, restore_word, action_word, timeline_in, word_in}
use Rattle.options_read.specs.Settings.{Source, value, argument, stated_all}
use Rattle.cmd_restore.specs.Fetching.{RecoveryType, FetchArguments, Configuration}
use Rattle.cmd_restore.specs.Fetching.RecoveryType.{FromArchive, Without}
use Rattle.cmd_restore.specs.Fetching.Configuration.{Usual, Nowhere, Named}
use Rattle.cmd_restore.specs.declared.order.TargetKind.{TargetKind}
use Rattle.cmd_restore.specs.declared.order.TargetKind.TheVariants as kinds
use Rattle.cmd_restore.specs.declared.order.TargetAction.{TargetAction}
use Rattle.cmd_restore.specs.declared.order.TargetAction.TheVariants as actions
use Rattle.cmd_restore.specs.declared.order.Timeline.{Timeline}
use Rattle.cmd_restore.specs.declared.order.Timeline.TheVariants as timelines
use Rattle.cmd_restore.specs.Targets.{RecoveryEnd}
use Rattle.cmd_restore.specs.Targets.RecoveryEnd.{Archive, Consistent, AtTarget, Standby as StaysStandby}
use Rattle.cmd_trait.specs.InForce.{is_on, count_in}
use Rattle.run_restore.specs.declared.restore.Restore.{Restore}
use Rattle.run_restore.specs.Restoring.{RestoreHow}
use Rattle.run_restore.specs.Code.{set_of, how_of}

-- none by `--no-config`, or the one that the arguments name
abbrev pub configuration_by : Bool → Option Text → Configuration
configuration_by true path = Nowhere
configuration_by false None = Usual
configuration_by false (Some path) = Named path

-- what the words of the options mean
abbrev pub action_for : ActionWord → TargetAction
action_for words.Pause = actions.Pause
action_for words.Promote = actions.Promote
action_for words.Shutdown = actions.Shutdown

abbrev pub timeline_for : Option TimelineWord → Option Timeline
timeline_for None = None
timeline_for (Some timeline_words.Current) = Some timelines.Current
timeline_for (Some timeline_words.Latest) = Some timelines.Latest
timeline_for (Some (timeline_words.Number n)) = Some (timelines.Number n)

-- the options of a recovery: its type, the arguments by which it fetches the log, where it ends, and settings of one's
-- own
pub record RecoveryOptions : Type 0 where
  pub restore_type : RestoreWord
  pub fetch : FetchArguments
  pub target : Option Text
  pub exclusive : Bool
  pub action : ActionWord
  pub timeline : Option TimelineWord
  pub own : List Text

abbrev pub target_for : RecoveryOptions → TargetKind → RecoveryEnd
target_for o kind = AtTarget (record {
  kind = kind;
  text = unwrap_or o.target [];
  exclusive = o.exclusive;
  action = action_for o.action;
})

abbrev pub recovery_to : RecoveryOptions → RecoveryEnd → RecoveryType
recovery_to o end = FromArchive (record {
  fetch = o.fetch;
  end = end;
  timeline = timeline_for o.timeline;
  own = o.own;
})

-- by the type
abbrev pub recovery_by : RecoveryOptions → RestoreWord → RecoveryType
recovery_by o Default = recovery_to o Archive
recovery_by o Plain = Without
recovery_by o Time = recovery_to o (target_for o kinds.Time)
recovery_by o Lsn = recovery_to o (target_for o kinds.Position)
recovery_by o Xid = recovery_to o (target_for o kinds.Transaction)
recovery_by o Name = recovery_to o (target_for o kinds.RestorePoint)
recovery_by o Immediate = recovery_to o (Consistent (action_for o.action))
recovery_by o Standby = recovery_to o StaysStandby

abbrev pub recovery_for : RecoveryOptions → RecoveryType
recovery_for o = recovery_by o o.restore_type

-- ---- by the settings

-- the arguments by which a restored server fetches the log
abbrev pub fetch_in : Source → FetchArguments
fetch_in s = record {
  config = configuration_by (is_denied (argument s Config)) (text_in (value s Config));
  pg1_path = argument s Pg1Path;
  repo1_path = argument s Repo1Path;
}

-- the label of the backup (option `set`), as it is given
abbrev pub set_in : Source → Option Text
set_in s = text_in (value s Set)

-- the options of its recovery
abbrev pub recovery_in : Source → RecoveryOptions
recovery_in s = record {
  restore_type = restore_word (word_in (value s RestoreType));
  fetch = fetch_in s;
  target = text_in (value s Target);
  exclusive = is_on s TargetExclusive;
  action = action_word (word_in (value s ActionOption));
  timeline = timeline_in (value s TargetTimeline);
  own = stated_all s RecoveryOption;
}

-- how it is restored
abbrev pub how_in : Source → RestoreHow
how_in s = record {
  workers = count_in s ProcessMax;
  delta = is_on s Delta;
  recovery = recovery_for (recovery_in s);
}

-- ---- by the options that are made of them

-- the configuration that they name
abbrev pub configuration_known : Options → Configuration
configuration_known o = configuration_by o.no_config (option_map string_bytes o.config)

-- the arguments by which a restored server fetches the log
abbrev pub fetch_known : Options → FetchArguments
fetch_known o = record {
  config = configuration_known o;
  pg1_path = option_map string_bytes o.given_pg1_path;
  repo1_path = option_map string_bytes o.given_repo1_path;
}

-- the label
abbrev pub set_known : Options → Option Text
set_known o = option_map string_bytes o.set

-- its recovery
abbrev pub recovery_known : Options → RecoveryOptions
recovery_known o = record {
  restore_type = o.restore_type;
  fetch = fetch_known o;
  target = option_map string_bytes o.target;
  exclusive = o.target_exclusive;
  action = o.target_action;
  timeline = o.target_timeline;
  own = map string_bytes o.recovery_options.items;
}

-- so it is restored
abbrev pub how_known : Options → RestoreHow
how_known o = record {
  workers = o.process_max;
  delta = o.delta;
  recovery = recovery_for (recovery_known o);
}

-- what is asked for is what the settings say of which the options were made
abbrev pub IsAsked : Restore → Options → Type 0
IsAsked c o = (s : Source) → AreOptions o s → (set_of c ≡ set_in s) × (how_of c ≡ how_in s)

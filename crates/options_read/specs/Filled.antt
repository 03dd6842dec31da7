-- The fields of `Options`, each with the value in force of its option.
use Rattle.std.specs.Prelude.{◌≡◌, ◌==◌, ℕ, [], length, codes, map, bytes_eq, ◌||◌, Bool, false, Option, Some, None, option_map, string_bytes, if◌then◌else◌}
use Rattle.base_model.specs.Text.{Text}
use Rattle.std.specs.Option.{option_or}
use Rattle.options_read.specs.declared.options.Options.{Options}
use Rattle.options_read.specs.declared.options.KindWord.{KindWord}
use Rattle.options_read.specs.declared.options.KindWord.TheVariants as kinds
use Rattle.options_read.specs.declared.options.RetentionWord.{RetentionWord}
use Rattle.options_read.specs.declared.options.RetentionWord.TheVariants as retentions
use Rattle.options_read.specs.declared.options.RestoreWord.{RestoreWord}
use Rattle.options_read.specs.declared.options.RestoreWord.TheVariants as restores
use Rattle.options_read.specs.declared.options.ActionWord.{ActionWord}
use Rattle.options_read.specs.declared.options.ActionWord.TheVariants as actions
use Rattle.options_read.specs.declared.options.TimelineWord.{TimelineWord}
use Rattle.options_read.specs.declared.options.TimelineWord.TheVariants as timelines
use Rattle.options_read.specs.declared.options.OutputWord.{OutputWord}
use Rattle.options_read.specs.declared.options.OutputWord.TheVariants as outputs
use Rattle.options_read.specs.declared.options.LogWord.{LogWord}
use Rattle.options_read.specs.declared.options.LogWord.TheVariants as logs
use Rattle.options_table.specs.declared.table.Opt.TheVariants.{Pg1Path, Pg1Port, Pg1SocketPath, Pg1User, Pg1Database, DbTimeout, Repo1Path, Repo1RetentionFull, Repo1RetentionFullType, Repo1RetentionDiff, Repo1RetentionArchive, Repo1RetentionArchiveType, Repo1Bundle, Repo1BundleSize, Repo1BundleLimit, ProcessMax, IoTimeout, BackupType, RestoreType, Delta, Online, StartFast, ArchiveTimeout, ArchiveAsync, ArchiveGetQueueMax, SpoolPath, LockPath, Set, Target, TargetExclusive, TargetAction, TargetTimeline, RecoveryOption, ExpireAuto, Output, Number, Config, LogLevelStderr, LogLevelFile, LogPath}
use Rattle.options_table.specs.Values.{Value, absent, flag, number, amount_of, text}
use Rattle.options_read.specs.Settings.{Source, value, argument, stated_all}

-- a text, where there is one
abbrev pub text_in : Option Value → Option Text
text_in None = None
text_in (Some absent) = None
text_in (Some (flag b)) = None
text_in (Some (number n)) = None
text_in (Some (amount_of n)) = None
text_in (Some (text t)) = Some t

-- a whole number
abbrev pub number_in : Option Value → Option ℕ
number_in None = None
number_in (Some absent) = None
number_in (Some (flag b)) = None
number_in (Some (number n)) = Some n
number_in (Some (amount_of n)) = None
number_in (Some (text t)) = None

-- a size or a time
abbrev pub amount_in : Option Value → Option ℕ
amount_in None = None
amount_in (Some absent) = None
amount_in (Some (flag b)) = None
amount_in (Some (number n)) = None
amount_in (Some (amount_of n)) = Some n
amount_in (Some (text t)) = None

-- y or n
abbrev pub flag_in : Option Value → Option Bool
flag_in None = None
flag_in (Some absent) = None
flag_in (Some (flag b)) = Some b
flag_in (Some (number n)) = None
flag_in (Some (amount_of n)) = None
flag_in (Some (text t)) = None

abbrev pub or_else : {A : Type 0} → A → Option A → A
or_else d None = d
or_else d (Some x) = x

-- the values of `type`, `repo1-retention-archive-type`, `repo1-retention-full-type` and `output`
abbrev pub kind_word : Text → KindWord
kind_word t = if bytes_eq t (codes "full") then kinds.Full else if bytes_eq t
    (codes "diff") then kinds.Diff else kinds.Incr

abbrev pub retention_word : Text → RetentionWord
retention_word t = if bytes_eq t (codes "time") then retentions.Time else retentions.Count

abbrev pub restore_word : Text → RestoreWord
restore_word t = if bytes_eq t (codes "none") then restores.Plain else if bytes_eq t
    (codes "time") then restores.Time else if bytes_eq t (codes "lsn") then restores.Lsn else if bytes_eq t
    (codes "xid") then restores.Xid else if bytes_eq t (codes "name") then restores.Name else if bytes_eq t
    (codes "immediate") then restores.Immediate else if bytes_eq t (codes "standby") then restores.Standby
    else restores.Default

-- the values of `target-action`
abbrev pub action_word : Text → ActionWord
action_word t = if bytes_eq t (codes "promote") then actions.Promote else if bytes_eq t
    (codes "shutdown") then actions.Shutdown else actions.Pause

-- the words of `target-timeline`, which may be a number too
abbrev pub timeline_word : Text → TimelineWord
timeline_word t = if bytes_eq t (codes "current") then timelines.Current else timelines.Latest

abbrev pub timeline_in : Option Value → Option TimelineWord
timeline_in v = option_or (option_map (λ n. timelines.Number n) (number_in v)) (option_map timeline_word (text_in v))

abbrev pub output_word : Text → OutputWord
output_word t = if bytes_eq t (codes "json") then outputs.Json else outputs.Text

-- what a log has (manual, "Log Options")
abbrev pub log_word : Text → LogWord
log_word t = if bytes_eq t [] || bytes_eq t (codes "off") then logs.Nothing else if bytes_eq t
    (codes "error") then logs.Failures else if bytes_eq t (codes "warn") then logs.Warnings else logs.Progress

-- a value, where there is one
abbrev pub word_in : Option Value → Text
word_in v = or_else [] (text_in v)

-- by `--no-` and its name an option is given without a value
abbrev pub is_denied : Option Text → Bool
is_denied None = false
is_denied (Some t) = length t == 0

-- each field has the value in force of its option, or what the arguments say of it
pub record AreOptions (o : Options) (s : Source) : Type 0 where
  pub pg1_path : option_map string_bytes o.pg1_path ≡ text_in (value s Pg1Path)
  pub pg1_port : o.pg1_port ≡ or_else 0 (number_in (value s Pg1Port))
  pub pg1_socket_path : string_bytes o.pg1_socket_path ≡ or_else [] (text_in (value s Pg1SocketPath))
  pub pg1_user : string_bytes o.pg1_user ≡ or_else [] (text_in (value s Pg1User))
  pub pg1_database : string_bytes o.pg1_database ≡ or_else [] (text_in (value s Pg1Database))
  pub db_timeout : o.db_timeout ≡ or_else 0 (amount_in (value s DbTimeout))
  pub repo1_path : string_bytes o.repo1_path ≡ or_else [] (text_in (value s Repo1Path))
  pub repo1_retention_full : o.repo1_retention_full ≡ number_in (value s Repo1RetentionFull)
  pub repo1_retention_full_type : o.repo1_retention_full_type ≡ retention_word (word_in (value s Repo1RetentionFullType))
  pub repo1_retention_diff : o.repo1_retention_diff ≡ number_in (value s Repo1RetentionDiff)
  pub repo1_retention_archive : o.repo1_retention_archive ≡ number_in (value s Repo1RetentionArchive)
  pub repo1_retention_archive_type : o.repo1_retention_archive_type
      ≡ kind_word (word_in (value s Repo1RetentionArchiveType))
  pub repo1_bundle : o.repo1_bundle ≡ or_else false (flag_in (value s Repo1Bundle))
  pub repo1_bundle_size : o.repo1_bundle_size ≡ or_else 0 (amount_in (value s Repo1BundleSize))
  pub repo1_bundle_limit : o.repo1_bundle_limit ≡ or_else 0 (amount_in (value s Repo1BundleLimit))
  pub process_max : o.process_max ≡ or_else 0 (number_in (value s ProcessMax))
  pub io_timeout : o.io_timeout ≡ or_else 0 (amount_in (value s IoTimeout))
  pub backup_type : o.backup_type ≡ kind_word (word_in (value s BackupType))
  pub restore_type : o.restore_type ≡ restore_word (word_in (value s RestoreType))
  pub delta : o.delta ≡ or_else false (flag_in (value s Delta))
  pub online : o.online ≡ or_else false (flag_in (value s Online))
  pub start_fast : o.start_fast ≡ or_else false (flag_in (value s StartFast))
  pub archive_timeout : o.archive_timeout ≡ or_else 0 (amount_in (value s ArchiveTimeout))
  pub archive_async : o.archive_async ≡ or_else false (flag_in (value s ArchiveAsync))
  pub archive_get_queue_max : o.archive_get_queue_max ≡ or_else 0 (amount_in (value s ArchiveGetQueueMax))
  pub spool_path : string_bytes o.spool_path ≡ or_else [] (text_in (value s SpoolPath))
  pub lock_path : string_bytes o.lock_path ≡ or_else [] (text_in (value s LockPath))
  pub set : option_map string_bytes o.set ≡ text_in (value s Set)
  pub target : option_map string_bytes o.target ≡ text_in (value s Target)
  pub target_exclusive : o.target_exclusive ≡ or_else false (flag_in (value s TargetExclusive))
  pub target_action : o.target_action ≡ action_word (word_in (value s TargetAction))
  pub target_timeline : o.target_timeline ≡ timeline_in (value s TargetTimeline)
  pub recovery_options : map string_bytes o.recovery_options.items ≡ stated_all s RecoveryOption
  pub expire_auto : o.expire_auto ≡ or_else false (flag_in (value s ExpireAuto))
  pub output : o.output ≡ output_word (word_in (value s Output))
  pub number_of : o.number ≡ number_in (value s Number)
  pub config : option_map string_bytes o.config ≡ text_in (value s Config)
  pub log_level_stderr : o.log_level_stderr ≡ log_word (word_in (value s LogLevelStderr))
  pub log_level_file : o.log_level_file ≡ log_word (word_in (value s LogLevelFile))
  pub log_path : option_map string_bytes o.log_path ≡ text_in (value s LogPath)
  pub given_pg1_path : option_map string_bytes o.given_pg1_path ≡ argument s Pg1Path
  pub given_repo1_path : option_map string_bytes o.given_repo1_path ≡ argument s Repo1Path
  pub no_config : o.no_config ≡ is_denied (argument s Config)

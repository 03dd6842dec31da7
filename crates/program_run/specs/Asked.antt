-- What the arguments and the configuration ask for (pgBackRest command reference and configuration reference).
use Rattle.std.specs.Prelude.{◌≡◌, ◌^◌, ◌≤◌, ℕ, Bool, true, false, List, [], Option, None, Some, Result, Ok, IfSome, IsSome, length, if◌then◌else◌}
use Rattle.base_devices.specs.Content.{Content}
use Rattle.base_model.specs.Text.{Text}
use Rattle.options_table.specs.declared.table.Opt.TheVariants.{ArchiveAsync, ArchiveGetQueueMax, ArchiveTimeout, BackupType, Delta, ExpireAuto, Number, Online, Output, Pg1Database, Pg1Port, Pg1SocketPath, Pg1User, ProcessMax, Repo1Bundle, Repo1BundleLimit, Repo1BundleSize, Repo1RetentionArchive, Repo1RetentionArchiveType, Repo1RetentionDiff, Repo1RetentionFull, Repo1RetentionFullType, SpoolPath, StartFast}
use Rattle.options_table.specs.declared.table.Verb.{Verb}
use Rattle.options_table.specs.declared.table.Verb.TheVariants.{StanzaCreate, StanzaUpgrade, ArchivePush, ArchivePushAsync, ArchiveGet, ArchiveGetAsync, Backup, Restore, Info, Verify, Expire, Rehearse}
use Rattle.options_read.specs.Faults.{Fault}
use Rattle.options_read.specs.Filled.{or_else, number_in, word_in, kind_word, retention_word, output_word}
use Rattle.options_read.specs.Paths.{Path, nowhere, usual, named, path_of_arguments}
use Rattle.options_read.specs.Settings.{Source, Resolved, value, resolved_arguments}
use Rattle.cmd_trait.specs.InForce.{is_on, first_of, second_of, path_in, count_in, size_in, place_in}
use Rattle.cmd_trait.specs.Meaning.{Place, Meaning}
use Rattle.cmd_stanza_create.specs.Server.{Server}
use Rattle.cmd_stanza_create.specs.declared.fault.CreateFault.{CreateFault}
use Rattle.cmd_stanza_upgrade.specs.declared.fault.UpgradeCommandFault.{UpgradeCommandFault}
use Rattle.cmd_archive_push.specs.declared.fault.PushFault.{PushFault}
use Rattle.cmd_archive_get.specs.declared.fault.GetFault.{GetFault}
use Rattle.cmd_backup_offline.specs.declared.fault.OfflineFault.{OfflineFault}
use Rattle.cmd_backup_online.specs.declared.fault.OnlineBackupFault.{OnlineBackupFault}
use Rattle.cmd_restore.specs.declared.fault.RestoreCommandFault.{RestoreCommandFault}
use Rattle.cmd_types.specs.declared.stages.fault.StageFault.{StageFault}
use Rattle.cmd_verify.specs.declared.command.fault.VerifyCommandFault.{VerifyCommandFault}
use Rattle.cmd_expire.specs.declared.fault.ExpireCommandFault.{ExpireCommandFault}
use Rattle.cmd_expire.specs.Rules.{full_rule, kind_by}
use Rattle.cmd_rehearse.specs.declared.fault.RehearseFault.{RehearseFault}
use Rattle.backup_plan.specs.declared.values.PlanSettings.{PlanSettings}
use Rattle.expire_rules.specs.declared.rules.Rules.{Rules}
use Rattle.run_stanza_create.specs.Creating.{create_meaning}
use Rattle.run_stanza_upgrade.specs.Upgrading.{upgrade_meaning}
use Rattle.run_archive_push.specs.declared.fault.QueuedPushFault.{QueuedPushFault}
use Rattle.run_archive_push.specs.Pushing.{push_meaning}
use Rattle.run_archive_push.specs.Queueing.{queued_push_meaning}
use Rattle.run_archive_push_async.specs.Draining.{drain_meaning}
use Rattle.run_archive_get.specs.Getting.{get_meaning}
use Rattle.run_archive_get.specs.GettingThrough.{through_meaning}
use Rattle.run_archive_get_async.specs.Fetching.{fetch_meaning}
use Rattle.run_backup.specs.Asking.{BackupHow, RunningHow}
use Rattle.run_backup.specs.declared.fault.BackupCommandFault.{BackupCommandFault}
use Rattle.run_backup.specs.Offline.{backup_offline_meaning}
use Rattle.run_backup.specs.Online.{backup_online_meaning}
use Rattle.run_restore.specs.Restoring.{restore_meaning}
use Rattle.run_restore.specs.Asking.{set_in, how_in}
use Rattle.run_info.specs.Informing.{info_meaning}
use Rattle.run_verify.specs.Verifying.{verify_meaning}
use Rattle.run_expire.specs.Expiring.{expire_meaning}
use Rattle.run_rehearse.specs.Rehearsing.{rehearse_meaning}

-- ---- the configuration

-- it has at most 1 MiB (own)
abbrev pub config_limit : ℕ
config_limit = 2 ^ 20

-- The bytes of the configuration that is named, as far as the files are known: none where there is none to read, or
-- where the usual file isn't there.
abbrev pub MayHave : Option Content → Path → Text → Type 0
MayHave files nowhere bytes = bytes ≡ []
MayHave files (usual path) bytes = IfSome files (λ f. or_else [] (f path) ≡ bytes)
MayHave files (named path) bytes = IfSome files (λ f. f path ≡ Some bytes)

-- what the arguments and their configuration resolve to: settings, or the first fault
pub record ArgumentsResolve (arguments : List Text) (files : Option Content) (read : Result Resolved Fault) : Type 0
  where
    pub path : Path
    pub is_path : path_of_arguments arguments ≡ Ok path
    pub bytes : Text
    pub has : MayHave files path bytes
    pub fits : length bytes ≤ config_limit
    pub settled : resolved_arguments arguments bytes ≡ read

-- ---- what is asked

-- what a command means, with the type of its refusals
pub record Meant : Type 1 where
  pub fault : Type 0
  pub means : Meaning fault

-- a command that is asked for: where, and what it means
pub record Asked : Type 1 where
  pub at : Place
  pub fault : Type 0
  pub means : Meaning fault

-- ---- what the options in force say

-- the server that is asked
abbrev pub server_in : Source → Server
server_in s = record {
  folder = path_in s Pg1SocketPath;
  port = count_in s Pg1Port;
  user = path_in s Pg1User;
  database = path_in s Pg1Database;
}

-- where one is
abbrev pub asked_in : Source → Option Server
asked_in s = if is_on s Online then Some (server_in s) else None

-- what the options of retention say (pgBackRest configuration reference, "Repository Options")
abbrev pub rules_in : Source → Rules
rules_in s = record {
  full = full_rule (number_in (value s Repo1RetentionFull)) (retention_word (word_in (value s Repo1RetentionFullType)));
  diff = number_in (value s Repo1RetentionDiff);
  archive = number_in (value s Repo1RetentionArchive);
  archive_kind = kind_by (kind_word (word_in (value s Repo1RetentionArchiveType)));
}

-- the expiry that follows a backup, where one does
abbrev pub expires_in : Source → Option Rules
expires_in s = if is_on s ExpireAuto then Some (rules_in s) else None

-- how the files of a backup are taken: whether those of the prior backup are distinguished by their digests, and how
-- small ones are stored together (pgBackRest configuration reference, "Backup Options" and "Repository Options")
abbrev pub settings_in : Source → PlanSettings
settings_in s = record {
  delta = is_on s Delta;
  bundle = is_on s Repo1Bundle;
  bundle_size = size_in s Repo1BundleSize;
  bundle_limit = size_in s Repo1BundleLimit;
}

-- how a server is backed up
abbrev pub backup_in : Source → BackupHow
backup_in s = record {
  workers = count_in s ProcessMax;
  kind = kind_by (kind_word (word_in (value s BackupType)));
  settings = settings_in s;
}

abbrev pub running_in : Source → RunningHow
running_in s = record { taken = backup_in s; fast = is_on s StartFast; turns = size_in s ArchiveTimeout }

-- ---- which command it is: a line each

-- archive-push: a file is stored at once, or it is queued for archive-push:async
abbrev pub push_by : Bool → Source → Text → Meant
push_by false s path = record { fault = PushFault; means = push_meaning path }
push_by true s path = record {
  fault = QueuedPushFault;
  means = queued_push_meaning path (path_in s SpoolPath) (size_in s ArchiveTimeout);
}

-- archive-get: a file is served from the repository, or through the spool
abbrev pub get_by : Bool → Source → Text → Text → Meaning GetFault
get_by false s name path = get_meaning name path
get_by true s name path = through_meaning name path (path_in s SpoolPath) (size_in s ArchiveGetQueueMax)

-- backup: of a stopped server, or of a running one
abbrev pub backup_by : Bool → Source → Meant
backup_by false s = record {
  fault = BackupCommandFault OfflineFault;
  means = backup_offline_meaning (backup_in s) (expires_in s);
}
backup_by true s = record {
  fault = BackupCommandFault OnlineBackupFault;
  means = backup_online_meaning (server_in s) (running_in s) (expires_in s);
}

-- of each verb, with its parameters
abbrev pub asked_by : Verb → Source → List Text → Meant
asked_by StanzaCreate s given = record { fault = CreateFault; means = create_meaning (asked_in s) }
asked_by StanzaUpgrade s given = record { fault = UpgradeCommandFault; means = upgrade_meaning (asked_in s) }
asked_by ArchivePush s given = push_by (is_on s ArchiveAsync) s (first_of given)
asked_by ArchivePushAsync s given = record { fault = PushFault; means = drain_meaning (path_in s SpoolPath) }
asked_by ArchiveGet s given =
    record { fault = GetFault; means = get_by (is_on s ArchiveAsync) s (first_of given) (second_of given) }
asked_by ArchiveGetAsync s given = record {
  fault = GetFault;
  means = fetch_meaning (first_of given) (path_in s SpoolPath) (size_in s ArchiveGetQueueMax);
}
asked_by Backup s given = backup_by (is_on s Online) s
asked_by Restore s given = record { fault = RestoreCommandFault; means = restore_meaning (set_in s) (how_in s) }
asked_by Info s given =
    record { fault = StageFault; means = info_meaning (output_word (word_in (value s Output))) }
asked_by Verify s given = record { fault = VerifyCommandFault; means = verify_meaning }
asked_by Expire s given = record { fault = ExpireCommandFault; means = expire_meaning (rules_in s) }
asked_by Rehearse s given = record { fault = RehearseFault; means = rehearse_meaning (count_in s Number) }

-- of what was resolved
abbrev pub meant : Resolved → Meant
meant s = asked_by s.source.verb s.source s.parameters

-- at the places that are named
abbrev pub asked : Resolved → Asked
asked s = record { at = place_in s; fault = (meant s).fault; means = (meant s).means }

-- the arguments ask for this, as far as the configuration is known
abbrev pub MayAsk : List Text → Option Content → Resolved → Type 0
MayAsk arguments files s = ArgumentsResolve arguments files (Ok s)

-- the arguments ask for this
pub record Asks (arguments : List Text) (files : Option Content) (s : Resolved) : Type 0 where
  pub known : IsSome files
  pub asks : MayAsk arguments files s

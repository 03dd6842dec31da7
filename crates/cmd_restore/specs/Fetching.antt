-- How a restored server fetches the log (pgBackRest command reference, "Restore Command", option "type"; PostgreSQL
-- manual, "restore_command" and "Parameter Names and Values").
use Rattle.std.specs.Prelude.{ℕ, Bool, ◌==◌, ◌&&◌, ◌||◌, nat_le, List, [], ◌∷◌, ◌++◌, map, codes, string_bytes, Option, Some, None, option_map, if◌then◌else◌}
use Rattle.std.specs.List.{list_any}
use Rattle.restore_make.specs.Recovered.{LogFetch, Recovery}
use Rattle.restore_make.specs.Recovered.Recovery.{FromArchive as Recovers, Nothing}
use Rattle.base_model.specs.Text.{Text}
use Rattle.restore_make.specs.Options.{Options}
use Rattle.cmd_restore.specs.declared.order.Timeline.{Timeline}
use Rattle.cmd_restore.specs.declared.order.LogRecovery as rust_recovery
use Rattle.cmd_restore.specs.declared.order.RecoveryType as rust
use Rattle.cmd_restore.specs.declared.order.RecoveryType.TheVariants as of_rust
use Rattle.cmd_restore.specs.declared.order.FetchArguments as rust_arguments
use Rattle.cmd_restore.specs.declared.order.Configuration as rust_configuration
use Rattle.cmd_restore.specs.declared.order.Configuration.TheVariants as configurations
use Rattle.cmd_restore.specs.Targets.{RecoveryEnd, end_of, settings_of, is_standby}

-- which configuration the arguments name: they don't say; none, by `--no-config`; or the one at a path
pub data Configuration : Type 0 where
  Usual : Configuration
  Nowhere : Configuration
  Named : (path : Text) → Configuration

-- the arguments of a restore that the server gives too: the configuration, and `pg1-path` and `repo1-path`, where they
-- are among the arguments
pub record FetchArguments : Type 0 where
  pub config : Configuration
  pub pg1_path : Option Text
  pub repo1_path : Option Text

-- a recovery: by which arguments the archive's files are fetched, where it ends, along which timeline, and with which
-- settings of one's own
pub record LogRecovery : Type 0 where
  pub fetch : FetchArguments
  pub end : RecoveryEnd
  pub timeline : Option Timeline
  pub own : List Text

pub data RecoveryType : Type 0 where
  FromArchive : LogRecovery → RecoveryType
  Without : RecoveryType

abbrev pub configuration_of : rust_configuration.Configuration → Configuration
configuration_of configurations.Usual = Usual
configuration_of configurations.Nowhere = Nowhere
configuration_of (configurations.Named path) = Named path.now

abbrev pub arguments_of : rust_arguments.FetchArguments → FetchArguments
arguments_of a = record {
  config = configuration_of a.config;
  pg1_path = option_map (λ p. p.now) a.pg1_path;
  repo1_path = option_map (λ p. p.now) a.repo1_path;
}

abbrev pub log_recovery : rust_recovery.LogRecovery → LogRecovery
log_recovery r = record {
  fetch = arguments_of r.fetch;
  end = end_of r.end;
  timeline = r.timeline;
  own = map string_bytes r.own.now;
}

abbrev pub recovery_type : rust.RecoveryType → RecoveryType
recovery_type of_rust.Nothing = Without
recovery_type (of_rust.FromArchive recovery) = FromArchive (log_recovery recovery)

-- a byte that a shell takes as it is: a letter, a digit, one of / . _ - %, or one of a longer character
abbrev pub is_plain : ℕ → Bool
is_plain c = (nat_le 97 c && nat_le c 122) || (nat_le 65 c && nat_le c 90) || (nat_le 48 c && nat_le c 57)
    || list_any (λ d. d == c) (codes "/._-%") || nat_le 128 c

-- a quote or a backslash occurs twice in a value of the settings' file, and a percent sign in the server's command
abbrev pub doubled_byte : ℕ → Text
doubled_byte c = if list_any (λ d. d == c) (codes "'\\%") then c ∷ c ∷ [] else c ∷ []

-- after a backslash, where the shell would take it for something else
abbrev pub quoted_byte : ℕ → Text
quoted_byte c = if is_plain c then doubled_byte c else doubled_byte 92 ++ doubled_byte c

abbrev pub quoted : Text → Text
quoted [] = []
quoted (c ∷ cs) = quoted_byte c ++ quoted cs

-- what says which configuration is read
abbrev pub config_text : Configuration → Text
config_text Usual = []
config_text Nowhere = codes " --no-config"
config_text (Named path) = codes " --config=" ++ quoted path

-- an option that is a path
abbrev pub path_text : Text → Option Text → Text
path_text option None = []
path_text option (Some path) = option ++ quoted path

-- the command by which the server fetches a log file
abbrev pub fetch_text : Text → FetchArguments → Text
fetch_text stanza a = codes "pgbackrest" ++ config_text a.config ++ path_text (codes " --pg1-path=") a.pg1_path
    ++ path_text (codes " --repo1-path=") a.repo1_path ++ codes " --stanza=" ++ stanza
    ++ codes " archive-get %f \"%p\""

-- how the log is fetched by this command, with these settings
abbrev pub fetched_by : LogRecovery → Text → List Text → LogFetch
fetched_by r command settings = record { command = command; settings = settings; standby = is_standby r.end }

abbrev pub recovery_by : Text → RecoveryType → Recovery
recovery_by stanza (FromArchive r) =
    Recovers (fetched_by r (fetch_text stanza r.fetch) (settings_of r.end r.timeline r.own))
recovery_by stanza Without = Nothing

-- how the backup is to be restored
abbrev pub options_by : Text → Bool → RecoveryType → Options
options_by stanza delta recovery = record { delta = delta; recovery = recovery_by stanza recovery }

-- ---- the same in three steps

-- the command by which a restored server fetches the log, the settings of its recovery, and what it does first
abbrev pub fetch_of : Text → RecoveryType → Text
fetch_of stanza (FromArchive r) = fetch_text stanza r.fetch
fetch_of stanza Without = []

abbrev pub settings_for : RecoveryType → List Text
settings_for (FromArchive r) = settings_of r.end r.timeline r.own
settings_for Without = []

abbrev pub recovery_with : RecoveryType → Text → List Text → Recovery
recovery_with (FromArchive r) fetch settings = Recovers (fetched_by r fetch settings)
recovery_with Without fetch settings = Nothing

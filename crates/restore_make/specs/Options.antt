-- How a backup is to be restored, and which of its files that rests on (pgBackRest command reference, "Restore
-- Command", options "delta" and "type").
use Rattle.std.specs.Prelude.{Bool, false, map, not, ◌&&◌, ◌||◌, nat_lt, bytes_eq}
use Rattle.base_model.specs.Text.{Text}
use Rattle.base_model.specs.Values.{FileEntry}
use Rattle.restore_steps.specs.Clearing.{control_path}
use Rattle.restore_make.specs.declared.options.LogFetch as rust_fetch
use Rattle.restore_make.specs.declared.options.Recovery as rust
use Rattle.restore_make.specs.declared.options.Recovery.TheVariants as of_rust
use Rattle.restore_make.specs.declared.options.RestoreOptions.{RestoreOptions}
use Rattle.restore_make.specs.Recovered.{LogFetch, Recovery, conf_path, signal_path}
use Rattle.restore_make.specs.Recovered.Recovery.{FromArchive, Nothing}

-- whether files that are there and equal stay, and how the server is to recover
pub record Options : Type 0 where
  pub delta : Bool
  pub recovery : Recovery

abbrev pub log_fetch_of : rust_fetch.LogFetch → LogFetch
log_fetch_of fetch = record {
  command = fetch.command.now;
  settings = map (λ line. line.items) fetch.settings.now;
  standby = fetch.standby;
}

abbrev pub recovery_of : rust.Recovery → Recovery
recovery_of of_rust.Nothing = Nothing
recovery_of (of_rust.FromArchive fetch) = FromArchive (log_fetch_of fetch)

abbrev pub options_of : RestoreOptions → Options
options_of o = record { delta = o.delta; recovery = recovery_of o.recovery }

-- the path is that of a file with settings of the recovery
abbrev pub is_added : Recovery → Text → Bool
is_added (FromArchive fetch) path = bytes_eq path conf_path || bytes_eq path (signal_path fetch)
is_added Nothing path = false

-- the file has bytes, is not the control file, and gets no settings
abbrev pub is_ordinary : Recovery → FileEntry → Bool
is_ordinary recovery e = nat_lt 0 e.size && not (bytes_eq e.path control_path) && not (is_added recovery e.path)

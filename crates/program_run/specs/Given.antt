-- What the code's commands represent. Own.
use Rattle.std.specs.Prelude.{◌≡◌, Option, None, Some, option_map, if◌then◌else◌}
use Rattle.options_read.specs.Settings.{Source}
use Rattle.options_table.specs.declared.table.Opt.TheVariants.{Online}
use Rattle.cmd_stanza_create.specs.declared.server.Server as code
use Rattle.cmd_stanza_create.specs.Server.{server_view}
use Rattle.cmd_trait.specs.InForce.{is_on}
use Rattle.run_backup.specs.Asking.{BackupHow, RunningHow}
use Rattle.run_backup.specs.declared.backup_offline.BackupOffline.{BackupOffline}
use Rattle.run_backup.specs.declared.backup_online.BackupOnline.{BackupOnline}
use Rattle.run_stanza_create.specs.declared.create.StanzaCreate.{StanzaCreate}
use Rattle.run_stanza_upgrade.specs.declared.upgrade.StanzaUpgrade.{StanzaUpgrade}
use Rattle.program_run.specs.Asked.{asked_in, server_in, expires_in, backup_in, running_in}

-- the server that is asked, where one is
abbrev pub IsAskedOf : Source → Option code.Server → Type 0
IsAskedOf s asked = option_map server_view asked ≡ asked_in s

-- it is asked by stanza-create, or by stanza-upgrade
abbrev pub IsCreate : Source → StanzaCreate → Type 0
IsCreate s c = IsAskedOf s c.server

abbrev pub IsUpgrade : Source → StanzaUpgrade → Type 0
IsUpgrade s c = IsAskedOf s c.server

abbrev pub how_of : BackupOffline → BackupHow
how_of c = record { workers = c.workers; kind = c.kind; settings = c.settings }

abbrev pub running_of : BackupOnline → RunningHow
running_of c = record {
  taken = record { workers = c.workers; kind = c.kind; settings = c.settings };
  fast = c.fast;
  turns = c.turns;
}

-- the backup that is asked for
abbrev pub IsOffline : Source → BackupOffline → Type 0
IsOffline s c = (how_of c ≡ backup_in s) × (c.expires ≡ expires_in s)

abbrev pub IsOnline : Source → BackupOnline → Type 0
IsOnline s c = (server_view c.server ≡ server_in s) × (running_of c ≡ running_in s) × (c.expires ≡ expires_in s)

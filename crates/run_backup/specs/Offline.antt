-- What a backup of a stopped server means (pgBackRest command reference, "Backup Command").
use Rattle.std.specs.Prelude.{◌≡◌, ◌⊎◌, ℕ, take, false, Option, None, Some, IfSome}
use Rattle.base_devices.specs.Content.{Name}
use Rattle.base_devices.specs.DataFolder.{Nodes}
use Rattle.base_devices.specs.Moments.{View}
use Rattle.base_model.specs.declared.labels.Label.{Label}
use Rattle.base_model.specs.InfoFiles.{IsLabel}
use Rattle.base_model.specs.Text.{Text}
use Rattle.repo_stanza.specs.declared.control.Control.{Control}
use Rattle.backup_make.specs.Touched.{TouchesOnly, IsOfBackup}
use Rattle.cmd_types.specs.Cluster.{FolderShows}
use Rattle.cmd_backup_common.specs.Causes.{Before}
use Rattle.cmd_backup_offline.specs.declared.fault.OfflineFault.{OfflineFault}
use Rattle.cmd_backup_offline.specs.declared.order.OfflineOrder.{OfflineOrder}
use Rattle.cmd_backup_offline.specs.Causes.{OfflineCause}
use Rattle.cmd_backup_offline.specs.Kinds.{IsBackupBy}
use Rattle.cmd_backup_offline.specs.Taken.{IsTaken}
use Rattle.cmd_backup_offline.specs.Touching.{TouchesOneOf, IsNewLabel}
use Rattle.cmd_backup_offline.specs.Texts.{offline_status, offline_message}
use Rattle.expire_rules.specs.declared.rules.Rules.{Rules}
use Rattle.cmd_expire.specs.Changing.{ChangesBoth, Expires}
use Rattle.cmd_trait.specs.KnownWorld.{KnownWorld}
use Rattle.cmd_trait.specs.Meaning.{Meaning}
use Rattle.run_backup.specs.declared.fault.BackupCommandFault.{BackupCommandFault}
use Rattle.run_backup.specs.Asking.{BackupHow}
use Rattle.run_backup.specs.Following.{BackupMeaning, backup_meaning}

-- the data folder reports this cluster, and this holds of it
abbrev pub OnCluster : Option Nodes → (Control → Type 0) → Type 0
OnCluster nodes P = (known : Control) × IfSome nodes (λ f. FolderShows f known) × P known

-- what a backup finds as its own part begins
abbrev pub found_by : Text → ℕ → KnownWorld → Control → Before
found_by stanza workers old known = record {
  stanza = stanza;
  known = known;
  repo = old.repo;
  nodes = old.nodes;
  least = old.clock.least;
  used = take workers old.links;
}

-- how a server is backed up by the order
abbrev pub taking_of : OfflineOrder → BackupHow
taking_of o = record { workers = o.take.workers; kind = o.kind; settings = o.settings }

-- by an order of this it is so
abbrev pub ByOrder : BackupHow → (OfflineOrder → Type 0) → Type 0
ByOrder how P = (o : OfflineOrder) × (taking_of o ≡ how) × P o

-- no names but these, of the backup of this label, which is new, are changed, and by an expiry after it by these rules
-- no more than it may change
pub record TouchesThen (stanza : Text) (these : Label → Name → Type 0) (rules : Rules) (least : ℕ) (label : Label)
    (old new : View) : Type 0 where
  pub is_label : IsLabel label
  pub is_new : IfSome old.now (IsNewLabel stanza label)
  pub both : ChangesBoth stanza rules least TouchesOnly (these label) old new

-- what one may change, whatever the repository holds: these names of one backup, whose label is new; and after it what an
-- expiry may change, by these rules
abbrev pub MayChange : Text → (Label → Name → Type 0) → Option Rules → ℕ → View → View → Type 0
MayChange stanza these None least old new = TouchesOneOf stanza these old new
MayChange stanza these (Some rules) least old new = Expires stanza rules least old new
    ⊎ ((label : Label) × TouchesThen stanza these rules least label old new)

-- its data folder is read by the first links, as many as it has workers
abbrev pub offline : BackupHow → BackupMeaning OfflineFault
offline how = record {
  running = false;
  makes = λ p old new. IsBackupBy how.kind (take how.workers old.links) p.stanza old.repo;
  promise = λ p old new repo lines. ByOrder how (λ o. OnCluster old.nodes (λ known.
      IsTaken p.stanza known o old.nodes (take how.workers old.links) old.repo repo old.clock new.clock lines));
  cause = λ p old new fault. ByOrder how (λ o. OnCluster old.nodes (λ known.
      OfflineCause (found_by p.stanza how.workers old known) o fault));
  closes = λ p old new failed fault. Unit {0};
  changes = λ expires p least old new. MayChange p.stanza (IsOfBackup p.stanza) expires least old new;
  status = offline_status;
  message = offline_message;
  others_effect = λ p old new. new ≡ old;
}

-- and then the expiry by these rules, where there are some
abbrev pub backup_offline_meaning : BackupHow → Option Rules → Meaning (BackupCommandFault OfflineFault)
backup_offline_meaning how expires = backup_meaning (offline how) expires

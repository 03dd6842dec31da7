-- Which refusal of a backup a fault below is, and which refusals come before its first step.
use Rattle.std.specs.Prelude.{◌≡◌, ℕ, Bool, true, String, string_bytes}
use Rattle.std.specs.declared.alloc.Global.{Global}
use Rattle.std.specs.Borrow.{Bor}
use Rattle.base_model.specs.declared.labels.Label.{Label}
use Rattle.base_model.specs.InfoFiles.{info_limit}
use Rattle.base_model.specs.ManifestText.{manifest_limit}
use Rattle.base_model.specs.Names.{backup_info, manifest_name}
use Rattle.base_model.specs.Text.{Text}
use Rattle.repo_stanza.specs.declared.fault.StanzaFault.{StanzaFault}
use Rattle.repo_stanza.specs.declared.fault.StanzaFault.TheVariants as stanzas
use Rattle.backup_plan.specs.declared.fault.PlanFault.{PlanFault}
use Rattle.backup_plan.specs.declared.fault.PlanFault.TheVariants as plans
use Rattle.cmd_backup_common.specs.declared.drafts.fault.SecondFault.{SecondFault}
use Rattle.cmd_backup_common.specs.declared.drafts.fault.SecondFault.TheVariants as seconds
use Rattle.backup_make.specs.declared.fault.MakeFault.{MakeFault}
use Rattle.backup_make.specs.declared.fault.MakeFault.TheVariants as makes
use Rattle.cmd_types.specs.declared.stages.object.Object.TheVariants.{Repo as TheRepo, Clock as TheClock}
use Rattle.cmd_types.specs.declared.stages.halt.Halt.{Halt}
use Rattle.cmd_types.specs.declared.stages.halt.Halt.TheVariants.{Refused, Failed, NoMemory}
use Rattle.cmd_backup_common.specs.declared.parts.fault.BackupFault.{BackupFault}
use Rattle.cmd_backup_common.specs.declared.parts.fault.BackupFault.TheVariants.{HistoryDiffers, StanzaMismatch, TooMany, WorkersLost, ClockBehind, LinkFound, NameRefused, ListingUnordered, ControlMissing, Unread, TooLong}

-- each comes before the backup is listed
abbrev pub backup_early : BackupFault → Bool
backup_early fault = true

-- of two values that were read: they may differ, or be another cluster's
abbrev pub of_stanza : StanzaFault → Halt BackupFault
of_stanza (stanzas.InfoDamaged name main copy) = NoMemory
of_stanza (stanzas.HistoryDiffers at) = Refused (HistoryDiffers at)
of_stanza (stanzas.StanzaMismatch kept found) = Refused (StanzaMismatch kept found)
of_stanza (stanzas.ArchiveLost label) = NoMemory
of_stanza (stanzas.FilesFound name) = NoMemory
of_stanza stanzas.Disk = NoMemory
of_stanza stanzas.NoMemory = NoMemory

-- of a listing
abbrev pub of_plan : PlanFault → Halt BackupFault
of_plan (plans.LinkFound path) = Refused (LinkFound path)
of_plan (plans.NameRefused path fault) = Refused (NameRefused path)
of_plan plans.Unordered = Refused ListingUnordered
of_plan (plans.ControlMissing path) = Refused (ControlMissing path)
of_plan (plans.TooMany limit) = Refused (TooMany limit)
of_plan plans.NoMemory = NoMemory

-- of a label's second
abbrev pub of_second : SecondFault → Halt BackupFault
of_second (seconds.ClockBehind latest now) = Refused (ClockBehind latest now)
of_second seconds.Clock = Failed TheClock
of_second seconds.Disk = Failed TheRepo
of_second seconds.NoMemory = NoMemory

-- Of a backup that isn't made; a text may also find no memory.
pub data IsHaltOf (stanza : Text) (label : Label) (lost : ℕ) : MakeFault → Halt BackupFault → Type 0 where
  NoneLeft : IsHaltOf stanza label lost makes.WorkersLost (Refused (WorkersLost lost))
  NotRead : (path : String Global) → IsHaltOf stanza label lost (makes.Unread path) (Refused (Unread path))
  Vanished : (path : Bor Text) (text : String Global) → string_bytes text ≡ path.now →
      IsHaltOf stanza label lost (makes.ControlMissing path) (Refused (ControlMissing text))
  LongManifest : (length : ℕ) (name : String Global) → string_bytes name ≡ manifest_name stanza label →
      IsHaltOf stanza label lost (makes.ManifestTooLong length) (Refused (TooLong name manifest_limit))
  LongList : (length : ℕ) (name : String Global) → string_bytes name ≡ backup_info stanza →
      IsHaltOf stanza label lost (makes.ListTooLong length) (Refused (TooLong name info_limit))
  NoClock : IsHaltOf stanza label lost makes.Clock (Failed TheClock)
  NoDisk : IsHaltOf stanza label lost makes.Disk (Failed TheRepo)
  Starved : (fault : MakeFault) → IsHaltOf stanza label lost fault NoMemory

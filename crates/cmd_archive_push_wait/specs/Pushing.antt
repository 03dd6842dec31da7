-- archive-push in the background: which command of the log it is, and why it is refused.
use Rattle.std.specs.Prelude.{◌≡◌, ◌⊎◌, ◌++◌, ℕ, Bool, true, List, Option, Some, IfSome}
use Rattle.sha1.specs.Sha1.{sha1}
use Rattle.base_devices.specs.DataFolder.{Nodes}
use Rattle.base_model.specs.declared.wal.ArchiveName.{ArchiveName}
use Rattle.base_model.specs.Names.{wal_text}
use Rattle.base_model.specs.Steps.{Command, ArchivePushAsync}
use Rattle.base_model.specs.Text.{Text}
use Rattle.archive_lookup.specs.Causes.{limit_of}
use Rattle.cmd_archive_push.specs.declared.fault.PushFault.TheVariants.{SegmentMissing as FileMissing, TooLong as FileLong}
use Rattle.cmd_archive_push.specs.LogFile.{known_file}
use Rattle.cmd_archive_push.specs.WalCause.{FileCause}
use Rattle.cmd_archive_push.specs.WalPath.{wal_path}
use Rattle.archive_lookup.specs.Turns.{Turned, Account}
use Rattle.archive_wait.specs.TurnsDone.{turns_of}
use Rattle.cmd_archive_push_wait.specs.declared.fault.QueueFault.{QueueFault}
use Rattle.cmd_archive_push_wait.specs.declared.fault.QueueFault.TheVariants.{SegmentMissing, TooLong}
use Rattle.cmd_archive_push_wait.specs.Causes.{Call, QueueCause}

-- it waited for the steps of others by which the account continued
pub record IsWaitOf (old : Option Account) (new : Account) (command : Command) : Type 0 where
  pub before : List Turned
  pub turned : List Turned
  pub was : old ≡ Some (record { stanza = new.stanza; turns = before })
  pub is : new.turns ≡ before ++ turned
  pub waits : command ≡ ArchivePushAsync (turns_of turned)

-- each refusal comes after no step but the steps of others
abbrev pub queue_early : QueueFault → Bool
queue_early fault = true

-- the data folder doesn't have the file, or it is too long
abbrev pub MissCause : Text → Text → ℕ → Option Nodes → QueueFault → Type 0
MissCause path name limit nodes (SegmentMissing word) = FileCause path name limit nodes (FileMissing word)
MissCause path name limit nodes (TooLong word most) = FileCause path name limit nodes (FileLong word most)
MissCause path name limit nodes other = ⊥

-- Why it is refused: the file can't be read, or it isn't acknowledged with the sum of the bytes that the data folder
-- has.
abbrev pub QueuePushCause : Text → Option Nodes → ArchiveName → (Text → Call) → QueueFault → Type 0
QueuePushCause path nodes name call fault = MissCause path (wal_text name) (limit_of name) nodes fault
    ⊎ ((sum : Text) × IfSome (known_file nodes (wal_path (wal_text name))) (λ bytes. sum ≡ sha1 bytes)
    × QueueCause (call sum) fault)

-- What a backup of a running server does, as a command of the log.
use Rattle.std.specs.Prelude.{◌≡◌, ◌++◌, ℕ, Bool, true, List, Option, Some, IfSome}
use Rattle.base_devices.specs.Content.{Content}
use Rattle.base_devices.specs.Links.{LinkState}
use Rattle.base_devices.specs.Moments.{View}
use Rattle.base_model.specs.declared.labels.BackupKind.{BackupKind}
use Rattle.base_model.specs.declared.labels.BackupKind.TheVariants.{Full}
use Rattle.base_model.specs.Steps.{Command, Turn, ArchivePushAsync}
use Rattle.base_model.specs.Text.{Text}
use Rattle.archive_lookup.specs.Turns.{Turned, Account}
use Rattle.archive_wait.specs.TurnsDone.{turns_of}
use Rattle.cmd_types.specs.declared.stages.plan.SyncScope.TheVariants.{Whole}
use Rattle.cmd_types.specs.DisksEffect.{Reached, On, OnAll, one, RepoEffect, DisksEffect, SpoolEffect}
use Rattle.backup_lemmas.specs.Backups.{IsOnlineBackup, IsAnyOnlineBackup}
use Rattle.cmd_backup_online.specs.Modelled.{IsLabelKnown}

-- the account continued by these steps of others
pub record TakesTurns (turned : List Turned) (old : Option Account) (new : Account) : Type 0 where
  pub before : List Turned
  pub was : old ≡ Some (record { stanza = new.stanza; turns = before })
  pub is : new.turns ≡ before ++ turned

-- what of a server's bytes describes a backup: those of a server of this system, before and after
pub record Received : Type 0 where
  pub system : ℕ
  pub pending : Option (List ℕ)
  pub left : Option (List ℕ)

-- a full one is of what these links read besides the label file, one of another kind also of what its prior backup has
abbrev pub IsOnlineBy : BackupKind → List LinkState → List Turn → Option Text → Text → Option Content → Command → Type 0
IsOnlineBy Full links turns label stanza old command = IsOnlineBackup links turns label command
IsOnlineBy kind links turns label stanza old command = IsAnyOnlineBackup links turns label stanza old command

-- it is one of this kind, which waited for these steps of others, with the label file that the server reported
abbrev pub IsOnlineOf : BackupKind → List LinkState → Received → Text → Option Content → List Turned → Command → Type 0
IsOnlineOf kind used received_reply stanza old turned command = (label : Option Text)
    × IsLabelKnown received_reply.system received_reply.pending received_reply.left label
    × IsOnlineBy kind used (turns_of turned) label stanza old command

-- In the log it is such a backup, after the steps of others that the account has for this stanza.
abbrev pub DoesOnline : Text → BackupKind → List LinkState → Received → Reached → Option Account → Option Account → View
    → View
    → Type 0
DoesOnline stanza kind used received_reply reached old_account account old new = IfSome account (λ k. k.stanza ≡ stanza
    → (turned : List Turned) × TakesTurns turned old_account k
    × On (one (IsOnlineOf kind used received_reply stanza old.now turned))
    (λ command. RepoEffect Whole stanza command reached old new))

-- Each of these steps of others succeeded where the command reached its end, and the spool's receipts continue by them.
abbrev pub MarksOnline : Text → Reached → Option Account → Option Account → View → View → View → Type 0
MarksOnline stanza reached old_account account repo spool new_spool = IfSome account (λ k. k.stanza ≡ stanza
    → (turned : List Turned) × TakesTurns turned old_account k
    × (ended : Bool) × OnAll reached (ended ≡ true)
    × SpoolEffect Whole stanza (ArchivePushAsync (turns_of turned)) ended repo spool new_spool)

-- so the command does this to both disks
abbrev pub RunsOnline : Text → BackupKind → List LinkState → Received → Reached → Option Account → Option Account → View
    → View
    → View → View → Type 0
RunsOnline stanza kind used received_reply reached old_account account repo spool new_repo new_spool =
    IfSome account (λ k. k.stanza ≡ stanza
    → (turned : List Turned) × TakesTurns turned old_account k
    × On (one (IsOnlineOf kind used received_reply stanza repo.now turned))
    (λ command. DisksEffect Whole stanza command reached repo spool new_repo new_spool))

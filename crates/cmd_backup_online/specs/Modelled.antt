-- What a running server says about its backup (PostgreSQL manual, "Making a Base Backup Using the Low Level API").
use Rattle.std.specs.Prelude.{◌≡◌, ◌⊎◌, ℕ, List, Option, IfSome, string_bytes}
use Rattle.base_model.specs.Text.{Text}
use Rattle.backup_make.specs.Online.{Online}
use Rattle.server_talk.specs.declared.backups.begun.Begun.{Begun}
use Rattle.server_talk.specs.declared.backups.begun.Finished.{Finished}
use Rattle.server_talk.specs.declared.backups.fault.OnlineFault.{OnlineFault}
use Rattle.server_talk.specs.declared.backups.fault.OnlineFault.TheVariants as talks
use Rattle.server_talk.specs.Causes.{StartCause, StopCause}
use Rattle.server_talk.specs.Ending.{StartsAt}
use Rattle.server_talk.specs.Telling.{ShowsBegun, ShowsStop, finished_stop}
use Rattle.cmd_backup_online.specs.declared.fault.OnlineBackupFault.{OnlineBackupFault}
use Rattle.cmd_backup_online.specs.declared.fault.OnlineBackupFault.TheVariants.{Server, TablespaceMap, SpanWrong}

-- the server reported the stop of this backup: the part of the log from its start, and the label file
pub record StopsWith (begun : Begun) (old new : Option (List ℕ)) (o : Online) : Type 0 where
  pub finished : Finished
  pub begins : StartsAt begun.size begun.from begun.segment finished.wal
  pub stops : ShowsStop begun old new (finished_stop finished)
  pub part_is : o.part ≡ finished.wal
  pub label_is : o.label_file ≡ string_bytes finished.label_file

-- The server is of this system, and reported a backup's start, and then its stop with these.
pub record ShowsOnline (system : ℕ) (old new : Option (List ℕ)) (o : Online) : Type 0 where
  pub begun : Begun
  pub following : Option (List ℕ)
  pub starts : ShowsBegun system old following begun
  pub stopped : StopsWith begun following new o

-- the server's backup isn't started for this, or it was started and isn't stopped for this
abbrev pub TalkFails : ℕ → Option (List ℕ) → Option (List ℕ) → OnlineFault → Type 0
TalkFails system old new fault =
    StartCause system old ⊥ fault ⊎ ((b : Begun) × (following : Option (List ℕ)) × ShowsBegun system old following b
    × StopCause b following new ⊥ fault)

-- a refusal for this fault of the talk
abbrev pub OfTalk : (OnlineFault → Type 0) → OnlineBackupFault → Type 0
OfTalk Why (Server fault) = Why (talks.Server fault)
OfTalk Why TablespaceMap = Why talks.TablespaceMap
OfTalk Why (SpanWrong start stop) = Why (talks.SpanWrong start stop)
OfTalk Why other = ⊥

-- a label file with this text, where there is one, is the one that the server reported
abbrev pub IsLabelKnown : ℕ → Option (List ℕ) → Option (List ℕ) → Option Text → Type 0
IsLabelKnown system old new label = IfSome label
    (λ text. (o : Online) × ShowsOnline system old new o × (text ≡ o.label_file))

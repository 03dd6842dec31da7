-- Why a backup that the server stopped isn't listed.
use Rattle.std.proofs.Common.{◌≡◌, inl, inr, ℕ, List, Option, refl, sym, subst}
use Rattle.base_devices.specs.Cause.{Rises}
use Rattle.base_devices.specs.Content.{Content}
use Rattle.base_model.specs.declared.wal.ArchiveId.{ArchiveId}
use Rattle.base_model.specs.declared.wal.WalPart.{WalPart}
use Rattle.base_model.specs.Text.{Text}
use Rattle.backup_sink.specs.declared.keeper.EndedItem.{EndedItem}
use Rattle.backup_record.specs.Faults.{IsMissing}
use Rattle.backup_make.specs.declared.draft.Draft.{Draft}
use Rattle.backup_make.specs.declared.fault.MakeFault.{MakeFault}
use Rattle.backup_make.specs.Draft.{stanza_of, files_with}
use Rattle.backup_make.specs.Faults.{CloseFails, PublishFails}
use Rattle.backup_make.specs.Online.{Online}
use Rattle.archive_wait.specs.declared.fault.AwaitFault.{AwaitFault}
use Rattle.archive_wait.specs.declared.fault.AwaitFault.TheVariants as waits
use Rattle.archive_wait.specs.Causes.{WaitCause}
use Rattle.cmd_types.specs.declared.stages.object.Object.{Object}
use Rattle.cmd_types.specs.declared.stages.halt.Halt.{Halt}
use Rattle.cmd_types.specs.Halts.{HaltCause, Never}
use Rattle.cmd_types.specs.Risen.{none, rose_in}
use Rattle.cmd_backup_common.specs.declared.parts.fault.BackupFault.{BackupFault}
use Rattle.cmd_backup_common.specs.PartsFaults.{IsHaltOf, NoneLeft, NotRead, Vanished, LongManifest, LongList, NoClock, NoDisk, Starved}
use Rattle.cmd_backup_common.proofs.Makings.{Either}
use Rattle.cmd_backup_online.specs.declared.fault.OnlineBackupFault.{OnlineBackupFault}
use Rattle.cmd_backup_online.specs.Faults.{of_backup, of_wait}
use Rattle.cmd_backup_online.specs.Finishing.{OfTake, PublishCause, VainCause}
use Rattle.base_model.specs.declared.labels.Label.{Label}

-- whichever halt a halt of any backup becomes
known_as : (Q : OnlineBackupFault → Type 0) (F : Object → Type 0) (h : Halt BackupFault) (k : Halt OnlineBackupFault) → k ≡ of_backup h → HaltCause Q F (of_backup h) → HaltCause Q F k
known_as Q F h k is cause = subst (HaltCause Q F) (sym is) cause

-- the clock or the disk failed as it stopped
pub close_stops : (stanza : Text) (label : Label) (lost old new known shows : ℕ) (fault : MakeFault) (h : Halt BackupFault) → IsHaltOf stanza label lost fault h → CloseFails fault old new known shows
    → HaltCause (Never {E = OnlineBackupFault}) (Either (Rises old new) (Rises known shows)) (of_backup h)
close_stops stanza label lost old new known shows fault h NoneLeft k = absurd k
close_stops stanza label lost old new known shows fault h (NotRead path) k = absurd k
close_stops stanza label lost old new known shows fault h (Vanished path text same) k = absurd k
close_stops stanza label lost old new known shows fault h (LongManifest n name is) k = absurd k
close_stops stanza label lost old new known shows fault h (LongList n name is) k = absurd k
close_stops stanza label lost old new known shows fault h NoClock k = k
close_stops stanza label lost old new known shows fault h NoDisk k = k
close_stops stanza label lost old new known shows fault h (Starved f) k = tt

pub close_known : (stanza : Text) (label : Label) (lost old new known shows : ℕ) (fault : MakeFault) (h : Halt BackupFault) (k : Halt OnlineBackupFault) → k ≡ of_backup h → IsHaltOf stanza label lost fault h → CloseFails fault old new known shows
    → HaltCause (Never {E = OnlineBackupFault}) (Either (Rises old new) (Rises known shows)) k
close_known stanza label lost old new known shows fault h k is halt fails = known_as (Never {E = OnlineBackupFault}) (Either (Rises old new) (Rises known shows)) h k is (close_stops stanza label lost old new known shows fault h halt fails)

-- the repository failed, or the spool did
abbrev pub OrSpool : Type 0 → Type 0 → Object → Type 0
OrSpool repo spool = rose_in (record none { repo = repo; spool = spool })

-- it isn't published
pub publish_stops : (d : Draft) (o : Option Online) (ends : List (List EndedItem)) (lost old new : ℕ) (fault : MakeFault) (h : Halt BackupFault) → IsHaltOf (stanza_of d) d.label lost fault h → PublishFails fault d o ends old new
    → HaltCause (OfTake (PublishCause d o ends)) (OrSpool (Rises old new) ⊥) (of_backup h)
publish_stops d o ends lost old new fault h NoneLeft k = absurd k
publish_stops d o ends lost old new fault h (NotRead path) k = absurd k
publish_stops d o ends lost old new fault h (Vanished path text same) k = subst (λ (t : Text). IsMissing t (files_with d ends)) (sym same) k
publish_stops d o ends lost old new fault h (LongManifest n name is) k = inl (is, refl, (n, k))
publish_stops d o ends lost old new fault h (LongList n name is) k = inr (is, refl, (n, k))
publish_stops d o ends lost old new fault h NoClock k = absurd k
publish_stops d o ends lost old new fault h NoDisk k = k
publish_stops d o ends lost old new fault h (Starved f) k = tt

-- the halt is of this draft's label
pub halt_of_draft : (d : Draft) (stanza : Text) (label : Label) → stanza_of d ≡ stanza → label ≡ d.label → (lost : ℕ) (fault : MakeFault) (h : Halt BackupFault) → IsHaltOf stanza label lost fault h → IsHaltOf (stanza_of d) d.label lost fault h
halt_of_draft d stanza label stanza_is label_is lost fault h halt =
    subst (λ (s : Text). IsHaltOf s d.label lost fault h) (sym stanza_is) (subst (λ (l : Label). IsHaltOf stanza l lost fault h) label_is halt)

pub publish_known : (d : Draft) (o : Option Online) (ends : List (List EndedItem)) (lost old new : ℕ) (fault : MakeFault) (h : Halt BackupFault) (k : Halt OnlineBackupFault) → k ≡ of_backup h → IsHaltOf (stanza_of d) d.label lost fault h → PublishFails fault d o ends old new
    → HaltCause (OfTake (PublishCause d o ends)) (OrSpool (Rises old new) ⊥) k
publish_known d o ends lost old new fault h k is halt fails = known_as (OfTake (PublishCause d o ends)) (OrSpool (Rises old new) ⊥) h k is (publish_stops d o ends lost old new fault h halt fails)

pub wait_stops : (stanza : Text) (id : ArchiveId) (w : WalPart) (most : ℕ) (now : Option Content) (repo spool : Type 0) (turns turned : ℕ) (fault : AwaitFault) → WaitCause stanza id w most now repo spool turns turned fault
    → HaltCause (VainCause stanza id w most now turns turned) (OrSpool repo spool) (of_wait fault)
wait_stops stanza id w most now repo spool turns turned (waits.NotArrived s n) h = h
wait_stops stanza id w most now repo spool turns turned (waits.Ambiguous x y) h = h
wait_stops stanza id w most now repo spool turns turned waits.Repo h = h
wait_stops stanza id w most now repo spool turns turned waits.Spool h = h
wait_stops stanza id w most now repo spool turns turned waits.NoMemory h = tt

pub wait_known : (stanza : Text) (id : ArchiveId) (w : WalPart) (most : ℕ) (now : Option Content) (repo spool : Type 0) (turns turned : ℕ) (fault : AwaitFault) (k : Halt OnlineBackupFault) → k ≡ of_wait fault → WaitCause stanza id w most now repo spool turns turned fault
    → HaltCause (VainCause stanza id w most now turns turned) (OrSpool repo spool) k
wait_known stanza id w most now repo spool turns turned fault k is h = subst (HaltCause (VainCause stanza id w most now turns turned) (OrSpool repo spool)) (sym is) (wait_stops stanza id w most now repo spool turns turned fault h)

-- Why a step of a rehearsal ends without its result.
use Rattle.std.proofs.Common.{◌≡◌, inl, inr, ℕ, Bool, true, false, List, Option, Some, None, refl, subst}
use Rattle.std.specs.Prelude.{IfSome}
use Rattle.base_devices.specs.Content.{Content}
use Rattle.base_model.specs.declared.labels.BackupKind.TheVariants.{Incr}
use Rattle.base_model.specs.declared.labels.Label.{Label}
use Rattle.base_model.specs.declared.wal.ArchiveId.{ArchiveId}
use Rattle.base_model.specs.declared.wal.ArchiveName.{ArchiveName}
use Rattle.base_model.specs.InfoFiles.{IsArchiveText, IsBackupText, info_limit}
use Rattle.base_model.specs.InfoText.{Section}
use Rattle.base_model.specs.ManifestText.{IsManifest, IsManifestText}
use Rattle.base_model.specs.Names.{archive_info, backup_info, manifest_name}
use Rattle.base_model.specs.Pair.{PairIs}
use Rattle.base_model.specs.Text.{Text}
use Rattle.base_model.specs.Values.{BackupInfo, Manifest}
use Rattle.repo_info.specs.ArchiveForm.{IsArchiveForm}
use Rattle.repo_info.specs.BackupForm.{IsBackupForm}
use Rattle.repo_pair.specs.declared.fault.InfoFault.{InfoFault}
use Rattle.repo_pair.specs.declared.fault.InfoFault.TheVariants as pairs
use Rattle.repo_pair.specs.Causes.{PairCause}
use Rattle.archive_lookup.specs.declared.stored.fault.ArchiveFault.{ArchiveFault}
use Rattle.archive_lookup.specs.declared.stored.fault.ArchiveFault.TheVariants as archives
use Rattle.archive_lookup.specs.Causes.{AllCause, PushCause as StoringCause}
use Rattle.cmd_types.specs.declared.stages.object.Object.{Object}
use Rattle.cmd_types.specs.declared.stages.object.Object.TheVariants as objects
use Rattle.cmd_types.specs.declared.stages.halt.Halt.{Halt}
use Rattle.cmd_types.specs.declared.stages.halt.Halt.TheVariants.{Refused, Failed, NoMemory}
use Rattle.cmd_types.specs.Halts.{HaltCause, Only}
use Rattle.cmd_types.specs.Risen.{none, rose_in}
use Rattle.cmd_stanza_create.specs.declared.fault.CreateFault.{CreateFault}
use Rattle.cmd_stanza_create.specs.declared.fault.CreateFault.TheVariants as creates
use Rattle.cmd_stanza_create.specs.Creating.{CreateCause}
use Rattle.cmd_archive_push.specs.declared.fault.PushFault.{PushFault}
use Rattle.cmd_archive_push.specs.declared.fault.PushFault.TheVariants as pushes
use Rattle.cmd_archive_push.specs.Faults.{of_archive}
use Rattle.cmd_backup_common.specs.Causes.{Before}
use Rattle.cmd_backup_offline.specs.declared.fault.OfflineFault.{OfflineFault}
use Rattle.cmd_backup_offline.specs.declared.order.OfflineOrder.{OfflineOrder}
use Rattle.cmd_backup_offline.specs.Basing.{base_label, ReadsBase, BaseCause}
use Rattle.cmd_backup_offline.specs.Causes.{OfflineCause}
use Rattle.expire_make.specs.declared.fault.ExpireFault.{ExpireFault}
use Rattle.expire_make.specs.declared.fault.ExpireFault.TheVariants as expiries
use Rattle.expire_make.specs.Fault.{IsFinding, ExpireCause}
use Rattle.restore_choice.specs.declared.choice.Choice.TheVariants.{Last}
use Rattle.restore_choice.specs.Choosing.{unbounded}
use Rattle.cmd_restore.specs.declared.fault.RestoreCommandFault.{RestoreCommandFault}
use Rattle.cmd_restore.specs.Causes.{RestoreCommandCause}
use Rattle.cmd_restore.specs.Restoring.{Before as BeforeRestore}
use Rattle.cmd_verify.specs.declared.command.fault.VerifyCommandFault.{VerifyCommandFault}
use Rattle.cmd_verify.specs.Verifying.{VerifyCommandCause}
use Rattle.cmd_rehearse.specs.declared.fault.StepFault.{StepFault}
use Rattle.cmd_rehearse.specs.declared.fault.StepFault.TheVariants as steps
use Rattle.cmd_rehearse.specs.Causes.{IsUnread, LostCause, IsRefusedPush, StepCause}
use Rattle.cmd_rehearse.specs.Commands.{sample, segment_named}
use Rattle.cmd_rehearse.specs.Faults.{of_create, of_push, of_info, of_base, of_offline, of_expire, of_restore, of_all, of_examine}

-- ---- what is read

module _ {V : Type 0} (IsTextOf : V → Text → Type 0) (IsForm : List Section → Text → Text → Type 0) (limit : ℕ) (name : Text) (now : Option Content) (rose : Type 0) where
  pub pair_lost : (P : StepFault → Type 0) → (IsUnread (PairCause IsTextOf IsForm limit name now ⊥) → P steps.Lost) → (fault : InfoFault) → PairCause IsTextOf IsForm limit name now rose fault → HaltCause P (Only objects.Repo rose) (of_info fault)
  pair_lost P to pairs.Missing h = to (pairs.Missing, tt, h)
  pair_lost P to (pairs.Damaged main copy) h = to (pairs.Damaged main copy, tt, h)
  pair_lost P to pairs.Disk h = (refl, h)
  pair_lost P to pairs.NoMemory h = tt

  -- a fault of what was found isn't one of the disk
  found : (fault : InfoFault) → IsFinding fault → PairCause IsTextOf IsForm limit name now rose fault → IsUnread (PairCause IsTextOf IsForm limit name now ⊥)
  found pairs.Missing is h = (pairs.Missing, tt, h)
  found (pairs.Damaged main copy) is h = (pairs.Damaged main copy, tt, h)
  found pairs.Disk is h = absurd is
  found pairs.NoMemory is h = absurd is

pub lost_step : (stanza : Text) (now : Option Content) (e : StepFault) → LostCause stanza now e → StepCause stanza now e
lost_step stanza now (steps.Create e) h = absurd h
lost_step stanza now (steps.Push e) h = absurd h
lost_step stanza now (steps.Take e) h = absurd h
lost_step stanza now steps.Lost h = h
lost_step stanza now (steps.HistoryDiffers at) h = absurd h
lost_step stanza now (steps.Recover e) h = absurd h
lost_step stanza now (steps.Examine e) h = absurd h

-- ---- stanza-create

pub create_fails : (stanza : Text) (now : Option Content) (pending : Option (List ℕ)) (repo server : Type 0) (h : Halt CreateFault) → HaltCause (CreateCause stanza sample None now pending) (rose_in (record none { repo = repo; server = server })) h → HaltCause (StepCause stanza now) (Only objects.Repo repo) (of_create h)
create_fails stanza now pending repo server (Refused (creates.Server fault)) h = let e : ◌≡◌ {A = Bool} false true = h.0 in cc
create_fails stanza now pending repo server (Refused (creates.InfoDamaged name main copy)) h = h
create_fails stanza now pending repo server (Refused (creates.HistoryDiffers at)) h = h
create_fails stanza now pending repo server (Refused (creates.StanzaMismatch kept found)) h = h
create_fails stanza now pending repo server (Refused (creates.ArchiveLost text)) h = h
create_fails stanza now pending repo server (Refused (creates.FilesFound name)) h = h
create_fails stanza now pending repo server (Failed objects.Repo) h = (refl, h)
create_fails stanza now pending repo server (Failed objects.Spool) h = absurd h
create_fails stanza now pending repo server (Failed objects.TheDataFolder) h = absurd h
create_fails stanza now pending repo server (Failed objects.Server) h = tt
create_fails stanza now pending repo server (Failed objects.Others) h = absurd h
create_fails stanza now pending repo server (Failed objects.Clock) h = absurd h
create_fails stanza now pending repo server (Failed objects.Locks) h = absurd h
create_fails stanza now pending repo server (Failed objects.Config) h = absurd h
create_fails stanza now pending repo server (Failed objects.Output) h = absurd h
create_fails stanza now pending repo server NoMemory h = tt

-- ---- a push

module _ (stanza : Text) (id : ArchiveId) (k : ℕ) (name : ArchiveName) (bytes : Text) (is_name : name ≡ (segment_named k).name) (is_bytes : bytes ≡ (segment_named k).bytes) (now : Option Content) (rose : Type 0) where
  refused : (fault : ArchiveFault) (e : PushFault) → of_archive fault ≡ Refused e → StoringCause stanza id name sample.system bytes now ⊥ fault → IsRefusedPush stanza now e
  refused fault e is h = (
    id,
    k,
    fault,
    is,
    subst (λ (b : Text). StoringCause stanza id (segment_named k).name sample.system b now ⊥ fault) is_bytes
        (subst (λ (n : ArchiveName). StoringCause stanza id n sample.system bytes now ⊥ fault) is_name h),
  )

  pub push_fails : (fault : ArchiveFault) → StoringCause stanza id name sample.system bytes now rose fault → HaltCause (StepCause stanza now) (Only objects.Repo rose) (of_push (of_archive fault))
  push_fails (archives.HeaderForm info) h = refused (archives.HeaderForm info) (pushes.HeaderForm info) refl h
  push_fails (archives.SegmentSize known found) h = refused (archives.SegmentSize known found) (pushes.SegmentSize known found) refl h
  push_fails (archives.HeaderMismatch kept found) h = refused (archives.HeaderMismatch kept found) (pushes.HeaderMismatch kept found) refl h
  push_fails (archives.Ambiguous first second) h = refused (archives.Ambiguous first second) (pushes.Ambiguous first second) refl h
  push_fails (archives.Duplicate kept found) h = refused (archives.Duplicate kept found) (pushes.Duplicate kept found) refl h
  push_fails archives.NotFound h = tt
  push_fails (archives.SegmentDamaged known found) h = tt
  push_fails (archives.TooLong path limit) h = refused (archives.TooLong path limit) (pushes.TooLong path limit) refl h
  push_fails (archives.TooMany limit) h = tt
  push_fails archives.Disk h = (refl, h.1)
  push_fails archives.NoMemory h = tt

-- ---- a backup

pub take_fails : (stanza : Text) (b : Before) (o : OfflineOrder) (now : Option Content) (F : Object → Type 0) → b.stanza ≡ stanza → b.known ≡ sample → b.repo ≡ now → (h : Halt OfflineFault) → HaltCause (OfflineCause b o) F h → HaltCause (StepCause stanza now) F (of_offline h)
take_fails stanza b o now F is known repo (Refused e) h = record { before = b; stanza_is = is; known_fact_is = known; repo_is = repo; order = o; cause = h }
take_fails stanza b o now F is known repo (Failed object) h = h
take_fails stanza b o now F is known repo NoMemory h = tt

-- ---- an expiry

pub expire_fails : (stanza : Text) (now : Option Content) (rose : Type 0) (fault : ExpireFault) → ExpireCause stanza now rose fault → HaltCause (StepCause stanza now) (Only objects.Repo rose) (of_expire fault)
expire_fails stanza now rose (expiries.Info fault) (is, inl h) = inl (found IsArchiveText IsArchiveForm info_limit (archive_info stanza) now rose fault is h)
expire_fails stanza now rose (expiries.Info fault) (is, inr h) = inr (inl (found IsBackupText IsBackupForm info_limit (backup_info stanza) now rose fault is h))
expire_fails stanza now rose (expiries.HistoryDiffers at) h = h
expire_fails stanza now rose expiries.Disk h = (refl, h)
expire_fails stanza now rose expiries.NoMemory h = tt

-- ---- the last backup, and its restore

pub recover_fails : (stanza : Text) (b : BeforeRestore) (now : Option Content) (F : Object → Type 0) → b.stanza ≡ stanza → b.choice ≡ Last unbounded → b.repo ≡ now → (h : Halt RestoreCommandFault) → HaltCause (RestoreCommandCause b) F h → HaltCause (StepCause stanza now) F (of_restore h)
recover_fails stanza b now F is set repo (Refused e) h = record { before = b; stanza_is = is; choice_is = set; repo_is = repo; cause = h }
recover_fails stanza b now F is set repo (Failed object) h = h
recover_fails stanza b now F is set repo NoMemory h = tt

-- what was read of the last backup, if there is one
pub base_last : (stanza : Text) (now : Option Content) (base : Option Label) (m : Manifest) → ReadsBase stanza now base (Some m) → (l : Label) × (base ≡ Some l) × IsManifest m × IfSome now (λ f. PairIs IsManifestText f (manifest_name stanza l) m)
base_last stanza now None m h = let e : ◌≡◌ {A = Option Manifest} (Some m) None = h in cc
base_last stanza now (Some l) m h = (l, refl, h.0, h.1)

base_none : (stanza : Text) (now : Option Content) (base : Option Label) → ReadsBase stanza now base None → base ≡ None
base_none stanza now None h = refl
base_none stanza now (Some l) h = absurd h

module _ (stanza : Text) (now : Option Content) (v : BackupInfo) (read : IfSome now (λ f. PairIs IsBackupText f (backup_info stanza) v)) where
  pub none_lost : ReadsBase stanza now (base_label Incr v) None → StepCause stanza now steps.Lost
  none_lost h = inr (inr (v, read, inl (base_none stanza now (base_label Incr v) h)))

  pub base_fails : (F : Object → Type 0) (h : Halt OfflineFault) → HaltCause (BaseCause stanza now (base_label Incr v)) F h → HaltCause (StepCause stanza now) F (of_base h)
  base_fails F (Refused e) h = inr (inr (v, read, inr (e, h)))
  base_fails F (Failed object) h = h
  base_fails F NoMemory h = tt

-- ---- what is stored, and a verification

pub all_fails : (stanza : Text) (now : Option Content) (rose : Type 0) (fault : ArchiveFault) → AllCause stanza now rose fault → HaltCause (StepCause stanza now) (Only objects.Repo rose) (of_all fault)
all_fails stanza now rose (archives.HeaderForm info) h = tt
all_fails stanza now rose (archives.SegmentSize known found) h = tt
all_fails stanza now rose (archives.HeaderMismatch kept found) h = tt
all_fails stanza now rose (archives.Ambiguous first second) h = tt
all_fails stanza now rose (archives.Duplicate kept found) h = tt
all_fails stanza now rose archives.NotFound h = tt
all_fails stanza now rose (archives.SegmentDamaged known found) h = tt
all_fails stanza now rose (archives.TooLong path limit) h = tt
all_fails stanza now rose (archives.TooMany limit) h = h
all_fails stanza now rose archives.Disk h = (refl, h)
all_fails stanza now rose archives.NoMemory h = tt

pub examine_fails : (stanza : Text) (now : Option Content) (F : Object → Type 0) (h : Halt VerifyCommandFault) → HaltCause (VerifyCommandCause stanza now) F h → HaltCause (StepCause stanza now) F (of_examine h)
examine_fails stanza now F (Refused e) h = h
examine_fails stanza now F (Failed object) h = h
examine_fails stanza now F NoMemory h = tt

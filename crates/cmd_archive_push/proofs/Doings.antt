-- What a push did, by what storing its file answers.
use Rattle.std.proofs.Common.{◌≡◌, Option, Result, Ok, Err, refl, sym, subst}
use Rattle.std.specs.Prelude.{IfErr, IsErrAnd, IsSomeAnd}
use Rattle.base_devices.specs.Moments.{View}
use Rattle.base_devices.specs.DataFolder.{Nodes}
use Rattle.base_model.specs.Text.{Text}
use Rattle.base_model.specs.Steps.{Command}
use Rattle.archive_lookup.specs.declared.stored.fault.ArchiveFault.{ArchiveFault}
use Rattle.archive_lookup.specs.declared.stored.fault.ArchiveFault.TheVariants.{HeaderForm, SegmentSize, HeaderMismatch, Ambiguous, Duplicate, NotFound, SegmentDamaged, TooLong, TooMany, Disk, NoMemory}
use Rattle.archive_store.specs.declared.fault.PushFault.{PushFault as StoreFault}
use Rattle.archive_store.specs.declared.fault.PushFault.TheVariants.{Archive, Source}
use Rattle.archive_lookup.specs.Causes.{OnFinding}
use Rattle.archive_store.specs.Pushing.{OnPushFinding}
use Rattle.archive_store.specs.Still.{IsStill, rests_none}
use Rattle.cmd_types.specs.declared.stages.plan.SyncScope.TheVariants.{Looked}
use Rattle.cmd_types.specs.declared.stages.object.Object.TheVariants as objects
use Rattle.cmd_types.specs.declared.stages.halt.Halt.{Halt}
use Rattle.cmd_types.specs.declared.stages.halt.Halt.TheVariants.{Refused, Failed, NoMemory as OutOfMemory}
use Rattle.cmd_types.specs.declared.stages.outcome.Outcome.{Outcome}
use Rattle.cmd_types.specs.Reached.{reached_by}
use Rattle.cmd_types.specs.DisksEffect.{to_end, turned_back, stopped, DoesPart, DoesWhole, RepoEffect}
use Rattle.cmd_types.proofs.Doing.{rests_does}
use Rattle.cmd_archive_push.specs.declared.fault.PushFault.{PushFault}
use Rattle.cmd_archive_push.specs.Commands.{IsPushOf}
use Rattle.cmd_archive_push.specs.Faults.{of_archive, of_store, push_early}

-- ---- nothing was done

back_open : ¬ (turned_back ≡ to_end)
back_open is = cc

stopped_open : ¬ (stopped ≡ to_end)
stopped_open is = cc

-- a refusal or a failure is no end
halt_open : (h : Halt PushFault) → ¬ (reached_by push_early (Err h) ≡ to_end)
halt_open (Refused e) = back_open
halt_open (Failed objects.Server) = back_open
halt_open (Failed objects.Repo) = stopped_open
halt_open (Failed objects.Spool) = stopped_open
halt_open (Failed objects.TheDataFolder) = stopped_open
halt_open (Failed objects.Others) = stopped_open
halt_open (Failed objects.Clock) = stopped_open
halt_open (Failed objects.Locks) = stopped_open
halt_open (Failed objects.Config) = stopped_open
halt_open (Failed objects.Output) = stopped_open
halt_open OutOfMemory = stopped_open

-- a call whose result is an error
pub none_did : (stanza : Text) (command : Command) (v : View) (result : Result Outcome (Halt PushFault))
    (e : Halt PushFault) → IsErrAnd result (λ h. h ≡ e) → RepoEffect Looked stanza command (reached_by push_early result) v v
none_did stanza command v (Ok o) e is = absurd is
none_did stanza command v (Err h) e is =
    rests_does Looked stanza command (reached_by push_early (Err h)) v v (halt_open h) (rests_none v) refl

pub as_err : {T : Type 0} (result : Result T (Halt PushFault)) (e : Halt PushFault) (P : Halt PushFault → Type 0)
    → IsErrAnd result (λ h. h ≡ e) → P e → IfErr result P
as_err (Ok o) e P is p = tt
as_err (Err h) e P is p = subst P (sym is) p

-- ---- the file wasn't stored, or a part was done

module _ (stanza : Text) (command : Command) (old new : View) (part : DoesPart Looked stanza command old new) where
  found : IsStill old new → RepoEffect Looked stanza command turned_back old new
  found same = rests_does Looked stanza command turned_back old new back_open same.time same.now

  halted : RepoEffect Looked stanza command stopped old new
  halted = record { part = part; whole = tt; turned = tt }

  archive_did : (e : ArchiveFault) → OnFinding e (IsStill old new)
      → RepoEffect Looked stanza command (reached_by push_early (Err (of_archive e))) old new
  archive_did (HeaderForm info) h = found h
  archive_did (SegmentSize known size) h = found h
  archive_did (HeaderMismatch kept other) h = found h
  archive_did (Ambiguous first second) h = found h
  archive_did (Duplicate kept other) h = found h
  archive_did NotFound h = halted
  archive_did (SegmentDamaged known other) h = halted
  archive_did (TooLong name limit) h = found h
  archive_did (TooMany limit) h = halted
  archive_did Disk h = halted
  archive_did NoMemory h = halted

  store_did : (e : StoreFault) → OnPushFinding e (IsStill old new)
      → RepoEffect Looked stanza command (reached_by push_early (Err (of_store e))) old new
  store_did (Archive e) h = archive_did e h
  store_did Source h = halted

  pub halt_did : (h : Halt PushFault) (e : StoreFault) → h ≡ of_store e
      → OnPushFinding e (IsStill old new)
      → RepoEffect Looked stanza command (reached_by push_early (Err h)) old new
  halt_did h e is found_same = subst
      (λ (k : Halt PushFault). RepoEffect Looked stanza command (reached_by push_early (Err k)) old new) (sym is)
      (store_did e found_same)

  -- there was no memory after it
  pub memory_did : (result : Result Outcome (Halt PushFault)) → IsErrAnd result (λ h. h ≡ OutOfMemory)
      → RepoEffect Looked stanza command (reached_by push_early result) old new
  memory_did (Ok o) is = absurd is
  memory_did (Err h) is = subst (λ (k : Halt PushFault). RepoEffect Looked stanza command (reached_by push_early (Err k)) old new)
      (sym is) halted

  pub end_did : DoesWhole Looked stanza command old new → RepoEffect Looked stanza command to_end old new
  end_did whole = record { part = part; whole = whole; turned = tt }

-- ---- a data folder that was only read

pub asked_on : (nodes mid : Option Nodes) (folder path : Text) (command : Command) → mid ≡ nodes
    → IsSomeAnd nodes (λ f. IsPushOf f folder path command) → IsSomeAnd mid (λ f. IsPushOf f folder path command)
asked_on nodes mid folder path command same asked =
    subst (λ (o : Option Nodes). IsSomeAnd o (λ f. IsPushOf f folder path command)) (sym same) asked

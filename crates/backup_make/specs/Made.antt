-- What a crash leaves of a backup, and which bytes it is made of (pgBackRest command reference, "Backup").
use Rattle.std.specs.Prelude.{◌≡◌, ◌≢◌, ◌⊎◌, ◌<◌, ℕ, Bool, true, false, List, Option, Some, None, Result, Ok, Err, IfSome, IsSome, slice_get}
use Rattle.base_devices.specs.Content.{Name, Content}
use Rattle.base_devices.specs.Moments.{View, is_unsynced}
use Rattle.base_devices.specs.Crash.{IsTemporary, Ends, NowChanges}
use Rattle.base_devices.specs.Links.{LinkState}
use Rattle.base_devices.specs.States.{DiskState}
use Rattle.base_model.specs.Names.{copy_of}
use Rattle.base_model.specs.Values.{Manifest, BackupInfo}
use Rattle.base_model.specs.InfoText.{info_text}
use Rattle.base_model.specs.InfoFiles.{backup_sections, IsBackupText}
use Rattle.base_model.specs.ManifestText.{IsManifestText}
use Rattle.repo_manifest.specs.Keeping.{manifest_text}
use Rattle.repo_stanza.specs.Pairs.{AgreeAt}
use Rattle.worker_protocol.specs.PartSinkState.{Done, JobItems}
use Rattle.worker_pool.specs.Payloads.{AllByFile}
use Rattle.worker_pool.specs.Run.{AllDone}
use Rattle.backup_sink.specs.declared.keeper.EndedItem.{EndedItem}
use Rattle.backup_sink.specs.Placed.{IsPlaced}
use Rattle.backup_sink.specs.Way.{Way, MayUnsync, IsBeside}
use Rattle.backup_record.specs.Ends.{AreAllEnds, AreReceived, JobsCome}
use Rattle.backup_record.specs.Faults.{HasControl}
use Rattle.backup_record.specs.Further.{with_name, with_kept}
use Rattle.backup_record.specs.Making.{IsListWith}
use Rattle.backup_make.specs.declared.draft.Draft.{Draft}
use Rattle.backup_make.specs.declared.fault.MakeFault.{MakeFault}
use Rattle.backup_make.specs.declared.fault.MakeFault.TheVariants as faults
use Rattle.backup_make.specs.Draft.{jobs_in, list_in, pair_of, main_of, is_own_of, further_in, manifest_for}
use Rattle.backup_make.specs.Online.{Online}
use Rattle.backup_make.specs.Stored.{AreNames}

-- The two pairs' names aren't temporary, differ, and are none at which bytes are stored.
pub record AreApart (own : Name → Bool) (pair main : Name) : Type 0 where
  pub pair_lasts : ¬ IsTemporary pair
  pub main_lasts : ¬ IsTemporary main
  pub pair_two : pair ≢ copy_of pair
  pub main_two : main ≢ copy_of main
  pub pair_out : own pair ≡ false
  pub copy_out : own (copy_of pair) ≡ false
  pub main_out : own main ≡ false
  pub main_copy_out : own (copy_of main) ≡ false
  pub apart : (pair ≢ main) × (pair ≢ copy_of main)
  pub copy_apart : (copy_of pair ≢ main) × (copy_of pair ≢ copy_of main)
  pub copy_lasts : ¬ IsTemporary (copy_of pair)
  pub main_copy_lasts : ¬ IsTemporary (copy_of main)

-- none of the four members is unsynced
pub record IsSyncedAt (pair main : Name) (v : View) : Type 0 where
  pub manifest : is_unsynced v pair ≡ false
  pub manifest_copy : is_unsynced v (copy_of pair) ≡ false
  pub info : is_unsynced v main ≡ false
  pub info_copy : is_unsynced v (copy_of main) ≡ false

-- the two pairs have these values, and each item lies at its place
pub record HasBackup (own : Name → Bool) (pair main : Name) (m : Manifest) (v : BackupInfo) (names : List Name)
    (kept : List JobItems) (f g : Content) : Type 0 where
  pub info_is : g main ≡ Some (info_text (backup_sections v))
  pub manifest_is : g pair ≡ Some (manifest_text m)
  pub placed : IsPlaced names kept g
  pub others : (n : Name) → own n ≡ false → ¬ IsTemporary n → n ≢ pair → n ≢ copy_of pair → n ≢ main → n ≢ copy_of main
      → g n ≡ f n

-- the copies of the two pairs have these values
pub record HasCopies (pair main : Name) (m : Manifest) (v : BackupInfo) (g : Content) : Type 0 where
  pub manifest_is : g (copy_of pair) ≡ Some (manifest_text m)
  pub info_is : g (copy_of main) ≡ Some (info_text (backup_sections v))

-- the same for the draft's backup, with its label file where a server ran
abbrev pub ListsIt : Draft → Option Online → Manifest → BackupInfo → List Name → List JobItems → ℕ → Content → Content
    → Type 0
ListsIt d o m v names kept stop f g =
    HasBackup (is_own_of d) (pair_of d) (main_of d) m v (with_name (further_in d o stop) names)
    (with_kept (further_in d o stop) kept) f g

-- The backup may be listed: by these values, of what the links read, and of what a server reported where one ran.
pub record MakesOf (d : Draft) (o : Option Online) (links : List LinkState) (whole : Bool) (old new : View) : Type
    0 where
  pub names : List Name
  pub names_are : AreNames d names
  pub ends : List (List EndedItem)
  pub kept : List JobItems
  pub received : AllDone (jobs_in d) links kept
  pub payload : AllByFile (jobs_in d) links kept
  pub are : AreAllEnds ends kept
  pub come : JobsCome (jobs_in d) ends
  pub got : IsSome old.now → AreReceived kept
  pub stop : ℕ
  pub manifest : Manifest
  pub manifest_is : manifest ≡ manifest_for d o ends stop
  pub manifest_valid : IsManifestText manifest (manifest_text manifest)
  pub control : HasControl manifest.files
  pub list : BackupInfo
  pub listed : IsListWith (list_in d) manifest list
  pub list_valid : IsBackupText list (info_text (backup_sections list))
  -- what the disk holds is as before, or the backup is listed
  pub now : NowChanges (λ f g. IsBeside (is_own_of d) (pair_of d) f g ⊎ ListsIt d o manifest list names kept stop f g)
      old.now new.now
  pub whole_now : whole ≡ true → NowChanges (ListsIt d o manifest list names kept stop) old.now new.now
  -- and where no member was unsynced, so is what a crash leaves
  pub synced : IsSyncedAt (pair_of d) (main_of d) old → IsSome old.now → (j i : ℕ) (n : Name) (k : JobItems) (x : Done)
      → slice_get (with_name (further_in d o stop) names) j ≡ Some n
      → slice_get (with_kept (further_in d o stop) kept) j ≡ Some k
      → slice_get k.done i ≡ Some x → 0 < x.held.count → is_unsynced new n ≡ false
  pub way : IsSyncedAt (pair_of d) (main_of d) old
      → Way (MayUnsync (is_own_of d)) (λ f g. IsBeside (is_own_of d) (pair_of d) f g
      ⊎ ListsIt d o manifest list names kept stop f g) old new
  pub whole_way : IsSyncedAt (pair_of d) (main_of d) old → whole ≡ true
      → Ends (ListsIt d o manifest list names kept stop) old new
  -- where it is listed at the end, the two pairs' copies have it too, and so they have it in what a crash then leaves
  pub copies_now : whole ≡ true
      → NowChanges (λ f g. HasCopies (pair_of d) (main_of d) manifest list g) old.now new.now
  pub copies : IsSyncedAt (pair_of d) (main_of d) old → whole ≡ true
      → Ends (λ f g. HasCopies (pair_of d) (main_of d) manifest list g) old new

-- of a stopped server
abbrev pub Makes : Draft → List LinkState → Bool → View → View → Type 0
Makes d links whole old new = MakesOf d None links whole old new

-- The stanza's list stays: in what the disk holds, and in what a crash leaves where no member was unsynced.
pub record LeavesList (d : Draft) (old new : View) : Type 0 where
  pub now : NowChanges (IsBeside (is_own_of d) (pair_of d)) old.now new.now
  pub way : IsSyncedAt (pair_of d) (main_of d) old
      → Way (MayUnsync (is_own_of d)) (IsBeside (is_own_of d) (pair_of d)) old new

-- after such a fault the backup may be listed: saving the list may have come that far
abbrev pub MayBeListed : MakeFault → Type 0
MayBeListed faults.WorkersLost = ⊥
MayBeListed (faults.Unread path) = ⊥
MayBeListed (faults.ControlMissing path) = ⊥
MayBeListed (faults.ManifestTooLong n) = ⊥
MayBeListed (faults.ListTooLong n) = ⊥
MayBeListed faults.Clock = ⊥
MayBeListed faults.Disk = Unit {0}
MayBeListed faults.NoMemory = Unit {0}

-- both members of the pair are alike afterwards
abbrev pub LeavesAlike : Name → DiskState → DiskState → Type 0
LeavesAlike main old new = IsSome old.view.now → IfSome new.view.now (AgreeAt main)

-- at Ok it is listed; else the list stays, or after some faults it may be
abbrev pub OutcomeOf : Result (Unit {0}) MakeFault → Draft → Option Online → List LinkState → View → View → Type 0
OutcomeOf (Ok x) d o links old new = MakesOf d o links true old new
OutcomeOf (Err e) d o links old new = LeavesList d old new ⊎ (MayBeListed e × MakesOf d o links false old new)

-- it stopped in a second of this kind, where it is listed
abbrev pub StopsBy : (ℕ → Type 0) → (result : Result (Unit {0}) MakeFault) (d : Draft) (o : Option Online)
    (links : List LinkState) (old new : View) → OutcomeOf result d o links old new → Type 0
StopsBy P (Ok x) d o links old new made = P made.stop
StopsBy P (Err e) d o links old new made = Unit {0}

-- of a stopped server
abbrev pub Outcome : Result (Unit {0}) MakeFault → Draft → List LinkState → View → View → Type 0
Outcome result d links old new = OutcomeOf result d None links old new

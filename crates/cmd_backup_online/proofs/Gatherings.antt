-- Which links are left after the digests, and why the data folder isn't read while the server is in its backup.
use Rattle.std.proofs.Common.{◌≡◌, inl, inr, ℕ, ◌<◌, ◌^◌, List, [], Option, None, String, Global, string_bytes, length, sym, subst}
use Rattle.std.specs.Prelude.{IfSome, Result, Err}
use Rattle.base_devices.specs.Cause.{HasCause, Rises}
use Rattle.base_devices.specs.Links.{LinkState}
use Rattle.base_devices.specs.Moments.{View}
use Rattle.base_devices.specs.declared.device_error.DeviceError.{DeviceError}
use Rattle.base_devices.specs.declared.device_error.DeviceError.TheVariants as stops
use Rattle.base_devices.specs.DataFolder.{Nodes, IsTreeListing}
use Rattle.base_model.specs.Text.{Text}
use Rattle.base_model.specs.Values.{BackupInfo, FileEntry}
use Rattle.backup_plan.specs.Filter.{ListedNode}
use Rattle.worker_pool.specs.declared.dispatch.fault.Lost.{Lost}
use Rattle.worker_pool.specs.Run.{Left}
use Rattle.worker_pool.specs.Left.{IsLeft}
use Rattle.worker_pool.proofs.Links.{left_is}
use Rattle.backup_make.specs.declared.draft.Draft.{Draft}
use Rattle.backup_make.specs.declared.fault.MakeFault.{MakeFault}
use Rattle.backup_make.specs.Draft.{stanza_of, jobs_in, IsFree}
use Rattle.backup_make.specs.Made.{LeavesList}
use Rattle.backup_make.specs.Staged.{IsFetched, IsStaged, fetched_draft, fetched_ends}
use Rattle.backup_make.specs.Faults.{StoreFails, IsUnread}
use Rattle.cmd_types.specs.declared.stages.object.Object.{Object}
use Rattle.cmd_types.specs.declared.stages.object.Object.TheVariants as objects
use Rattle.cmd_types.specs.declared.stages.halt.Halt.{Halt}
use Rattle.cmd_types.specs.declared.stages.halt.Halt.TheVariants.{Refused, Failed, NoMemory}
use Rattle.cmd_types.specs.Halts.{HaltCause, Never, halt_of}
use Rattle.cmd_types.specs.Risen.{none, rose_in}
use Rattle.cmd_backup_common.specs.declared.parts.fault.BackupFault.{BackupFault}
use Rattle.cmd_backup_common.specs.PartsFaults.{IsHaltOf, NoneLeft, NotRead, Vanished, LongManifest, LongList, NoClock, NoDisk, Starved}
use Rattle.cmd_backup_common.specs.Making.{CannotRead}
use Rattle.cmd_backup_common.proofs.Links.{Comes}
use Rattle.cmd_backup_offline.specs.declared.order.OfflineOrder.{OfflineOrder}
use Rattle.cmd_backup_offline.specs.Drafting.{IsPlannedBy}
use Rattle.cmd_backup_offline.proofs.Left.{comes_left, left_twice}
use Rattle.cmd_backup_online.specs.declared.online_read.Gathered.{Gathered}
use Rattle.cmd_backup_online.specs.Drafting.{IsDraftFrom, UndraftedCause}
use Rattle.cmd_backup_online.specs.Gathering.{IsNamedBy, IsGathered, GatherCause}

-- ---- the links

-- of the links that were given their folders these are left after the digests
module _ (used now following : List LinkState) (mid lost : List Lost) (first : Left [] used [] mid now) (left : IsLeft now following mid lost) where
  pub left_following : IsLeft used following [] lost
  left_following = left_twice used now following mid lost (left_is [] used [] mid now first) left

  pub comes_after : Comes used following
  comes_after = comes_left used following [] lost left_following

-- what was fetched for a draft was gathered
pub is_gathered : (stanza : Text) (o : OfflineOrder) (nodes : Option Nodes) (list : BackupInfo) (files : List FileEntry) (links now : List LinkState) (before lost : List Lost) → IsLeft links now before lost → (d : Draft) → IsDraftFrom stanza o nodes list files d → IsPlannedBy links o d → IsFree d
    → (g : Gathered) → fetched_draft g.fetched ≡ d → IsFetched g.fetched → IsNamedBy o list d g → (old new : View) → IsStaged d None now (fetched_ends g.fetched) new → LeavesList d old new → IsGathered stanza o nodes list files links before old new g
is_gathered stanza o nodes list files links now before lost left d from planned free g is fetched named old new staged unlisted = record {
  fetched = fetched;
  free = subst IsFree (sym is) free;
  draft = subst (IsDraftFrom stanza o nodes list files) (sym is) from;
  named = subst (λ (x : Draft). IsNamedBy o list x g) (sym is) named;
  planned = subst (IsPlannedBy links o) (sym is) planned;
  now = now;
  lost = lost;
  left = left;
  staged = subst (λ (x : Draft). IsStaged x None now (fetched_ends g.fetched) new) (sym is) staged;
  unlisted = subst (λ (x : Draft). LeavesList x old new) (sym is) unlisted;
}

-- ---- the folder isn't listed

-- a call of this object failed, or there was no memory for it
pub stop_halts : {T : Type 0} (failed : Object → Type 0) (object : Object) (old new : ℕ) (result : Result T DeviceError) (stop : DeviceError) (h : Halt BackupFault) → result ≡ Err stop → HasCause old new result → (Rises old new → failed object) → h ≡ halt_of object stop → HaltCause (Never {E = BackupFault}) failed h
stop_halts failed object old new result stops.Failed h is cause rose at = subst (HaltCause (Never {E = BackupFault}) failed) (sym at) (rose (cause.failed is))
stop_halts failed object old new result stops.NoMemory h is cause rose at = subst (HaltCause (Never {E = BackupFault}) failed) (sym at) tt

-- the repository failed, the data folder or the clock
abbrev pub OrTree : Type 0 → Type 0 → Type 0 → Object → Type 0
OrTree repo tree clock = rose_in (record none { repo = repo; tree = tree; clock = clock })

module _ (stanza : Text) (o : OfflineOrder) (nodes : Option Nodes) (list : BackupInfo) (files : List FileEntry) (links : List LinkState) (before : List Lost) (repo tree clock : Type 0) where
  or_tree : (object : Object) → rose_in (record none { tree = tree; clock = clock }) object → OrTree repo tree clock object
  or_tree objects.Repo h = absurd h
  or_tree objects.Spool h = absurd h
  or_tree objects.TheDataFolder h = h
  or_tree objects.Server h = absurd h
  or_tree objects.Others h = absurd h
  or_tree objects.Clock h = h
  or_tree objects.Locks h = absurd h
  or_tree objects.Config h = absurd h
  or_tree objects.Output h = absurd h

  pub list_stops : (h : Halt BackupFault) → HaltCause (Never {E = BackupFault}) (rose_in (record none { tree = tree; clock = clock })) h → HaltCause (GatherCause stanza o nodes list files links before) (OrTree repo tree clock) h
  list_stops (Refused e) h = absurd h
  list_stops (Failed object) h = or_tree object h
  list_stops NoMemory h = tt

  -- no draft is made of what it shows
  pub draft_stops : (seen : List ListedNode) → IfSome nodes (λ f. IsTreeListing f seen) → (h : Halt BackupFault) → HaltCause (UndraftedCause seen links before files) (λ _. ⊥) h → HaltCause (GatherCause stanza o nodes list files links before) (OrTree repo tree clock) h
  draft_stops seen listing (Refused e) h = inl (seen, listing, h)
  draft_stops seen listing (Failed object) h = absurd h
  draft_stops seen listing NoMemory h = tt

  module _ (d : Draft) (from : IsDraftFrom stanza o nodes list files d) (now : List LinkState) (mid : List Lost) (of : IsLeft links now before mid) (left : List LinkState) (after : List Lost) (lost : ℕ) (count : length after < 2 ^ 32 → lost ≡ length after) where
    unread : (path : String Global) → IsUnread (jobs_in d) now left (string_bytes path) → CannotRead d now path
    unread path h = record {
      link = h.link;
      from = h.from;
      from_is = h.from_is;
      job = h.job;
      job_is = h.asked;
      item = h.item;
      item_is = h.of_job;
      path_is = h.path_is;
      unread = h.unread;
    }

    -- its jobs aren't done
    pub fetch_stops : (old new : ℕ) → (Rises old new → repo) → (fault : MakeFault) (h : Halt BackupFault) → IsHaltOf (stanza_of d) d.label lost fault h → StoreFails fault (jobs_in d) now left mid after old new
        → HaltCause (GatherCause stanza o nodes list files links before) (OrTree repo tree clock) h
    fetch_stops old new rose fault h NoneLeft k = inr (record { draft = d; from = from; now = now; lost = mid; left = of; cause = record { after = after; all = k; count = count } })
    fetch_stops old new rose fault h (NotRead path) k = inr (record { draft = d; from = from; now = now; lost = mid; left = of; cause = unread path k })
    fetch_stops old new rose fault h (Vanished path text same) k = absurd k
    fetch_stops old new rose fault h (LongManifest n name is) k = absurd k
    fetch_stops old new rose fault h (LongList n name is) k = absurd k
    fetch_stops old new rose fault h NoClock k = absurd k
    fetch_stops old new rose fault h NoDisk k = rose k
    fetch_stops old new rose fault h (Starved f) k = tt

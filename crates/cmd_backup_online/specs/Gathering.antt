-- What lies in the label's folder while the server is in its backup, and why no more does. Own.
use Rattle.std.specs.Prelude.{◌≡◌, ◌⊎◌, List, Option, None, IfSome, string_bytes}
use Rattle.base_devices.specs.Links.{LinkState}
use Rattle.base_devices.specs.Moments.{View, LeavesNoMore}
use Rattle.base_devices.specs.DataFolder.{Nodes, IsTreeListing}
use Rattle.base_model.specs.InfoFiles.{IsLabel}
use Rattle.base_model.specs.Repository.{id_of}
use Rattle.base_model.specs.Text.{Text}
use Rattle.base_model.specs.Values.{BackupInfo, FileEntry}
use Rattle.worker_pool.specs.declared.dispatch.fault.Lost.{Lost}
use Rattle.worker_pool.specs.Left.{IsLeft}
use Rattle.backup_plan.specs.Filter.{ListedNode}
use Rattle.backup_make.specs.declared.draft.Draft.{Draft}
use Rattle.backup_make.specs.Draft.{IsFree}
use Rattle.backup_make.specs.Made.{LeavesList}
use Rattle.backup_make.specs.Staged.{IsFetched, IsStaged, fetched_draft, fetched_ends}
use Rattle.cmd_backup_common.specs.declared.parts.fault.BackupFault.{BackupFault}
use Rattle.cmd_backup_common.specs.declared.parts.fault.BackupFault.TheVariants.{WorkersLost, Unread}
use Rattle.cmd_backup_common.specs.Making.{CannotRead, LosesAll}
use Rattle.cmd_backup_offline.specs.declared.order.OfflineOrder.{OfflineOrder}
use Rattle.cmd_backup_offline.specs.Basing.{base_in}
use Rattle.cmd_backup_offline.specs.Drafting.{IsPlannedBy}
use Rattle.cmd_backup_offline.specs.Texts.{offline_lines}
use Rattle.cmd_backup_online.specs.declared.online_read.Gathered.{Gathered}
use Rattle.cmd_backup_online.specs.Drafting.{IsDraftFrom, UndraftedCause}

-- what goes with the draft: its label, the archive id of its cluster, and the lines that state its kind and its label
pub record IsNamedBy (o : OfflineOrder) (list : BackupInfo) (d : Draft) (g : Gathered) : Type 0 where
  pub label_is : g.label ≡ d.label
  pub label_valid : IsLabel g.label
  pub id_is : g.id ≡ id_of d.cluster
  pub lines_are : string_bytes g.lines ≡ offline_lines o.kind (base_in o.kind list) d.label

-- All that these links read of the folder lies in the folder of the draft's label, durably, and isn't listed. Which
-- files they read was planned by the digests that they stated before.
pub record IsGathered (stanza : Text) (o : OfflineOrder) (nodes : Option Nodes) (list : BackupInfo)
    (files : List FileEntry) (links : List LinkState) (before : List Lost) (old new : View) (g : Gathered) : Type
    0 where
  pub fetched : IsFetched g.fetched
  pub free : IsFree (fetched_draft g.fetched)
  pub draft : IsDraftFrom stanza o nodes list files (fetched_draft g.fetched)
  pub named : IsNamedBy o list (fetched_draft g.fetched) g
  pub planned : IsPlannedBy links o (fetched_draft g.fetched)
  -- the links that are left after the digests
  pub now : List LinkState
  pub lost : List Lost
  pub left : IsLeft links now before lost
  pub staged : IsStaged (fetched_draft g.fetched) None now (fetched_ends g.fetched) new
  pub unlisted : LeavesList (fetched_draft g.fetched) old new

-- The repository is unchanged, or some of a draft lies in the folder of its label and isn't listed.
pub data GivesUp (stanza : Text) (o : OfflineOrder) (nodes : Option Nodes) (list : BackupInfo) (files : List FileEntry)
    (old new : View) : Type 0 where
  Untouched : LeavesNoMore old new → new.now ≡ old.now → GivesUp stanza o nodes list files old new
  Begun : (d : Draft) → IsDraftFrom stanza o nodes list files d → LeavesList d old new
      → GivesUp stanza o nodes list files old new

-- why the draft's jobs aren't done over these links
abbrev pub FetchCause : Draft → List LinkState → List Lost → BackupFault → Type 0
FetchCause d links before (WorkersLost lost) = LosesAll d links before lost
FetchCause d links before (Unread path) = CannotRead d links path
FetchCause d links before other = ⊥

-- those of a draft aren't done over those of these links that are left
pub record FetchFails (stanza : Text) (o : OfflineOrder) (nodes : Option Nodes) (list : BackupInfo)
    (files : List FileEntry) (links : List LinkState) (before : List Lost) (fault : BackupFault) : Type 0 where
  pub draft : Draft
  pub from : IsDraftFrom stanza o nodes list files draft
  pub now : List LinkState
  pub lost : List Lost
  pub left : IsLeft links now before lost
  pub cause : FetchCause draft now lost fault

-- or there is no draft of what the folder shows
abbrev pub GatherCause : Text → OfflineOrder → Option Nodes → BackupInfo → List FileEntry → List LinkState → List Lost
    → BackupFault → Type 0
GatherCause stanza o nodes list files links before fault =
    ((seen : List ListedNode) × IfSome nodes (λ f. IsTreeListing f seen) × UndraftedCause seen links before files fault)
    ⊎ FetchFails stanza o nodes list files links before fault

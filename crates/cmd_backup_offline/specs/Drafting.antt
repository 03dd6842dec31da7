-- The draft of a backup of any kind of a server's data folder (pgBackRest user guide, "Backup").
use Rattle.std.specs.Prelude.{◌≡◌, ◌⊎◌, ℕ, true, false, Bool, List, [], length, map, Option, Some, None}
use Rattle.base_devices.specs.Order.{are_in_order}
use Rattle.base_devices.specs.Links.{LinkState}
use Rattle.base_model.specs.Fields.{at_number}
use Rattle.base_model.specs.Text.{Text}
use Rattle.base_model.specs.Values.{BackupInfo, Entry, FileEntry}
use Rattle.worker_pool.specs.declared.dispatch.fault.Lost.{Lost}
use Rattle.backup_plan.specs.declared.values.Listing.{Listing}
use Rattle.backup_plan.specs.Filter.{ListedNode, kept, files_of, Takes}
use Rattle.backup_plan.specs.Layout.{layout}
use Rattle.backup_plan.specs.Listed.{Taken}
use Rattle.backup_make.specs.declared.draft.Draft.{Draft}
use Rattle.backup_make.specs.Draft.{stanza_of, taken_in, folders_in, old_in, list_in}
use Rattle.cmd_backup_common.specs.Drafted.{KeepRules}
use Rattle.cmd_backup_common.specs.Priors.{made_label}
use Rattle.cmd_backup_common.specs.Seconds.{IsNext}
use Rattle.cmd_backup_common.specs.declared.parts.fault.BackupFault.{BackupFault}
use Rattle.cmd_backup_common.specs.Drafting.{DraftCause}
use Rattle.cmd_backup_offline.specs.declared.order.OfflineOrder.{OfflineOrder}
use Rattle.cmd_backup_offline.specs.Basing.{base_in, base_label}
use Rattle.cmd_backup_offline.specs.Equal.{AreMarked, EqualCause}

-- these may be the files of the backup that a further one is based on: without one there are none
pub record MayBase (base : Option Entry) (old : List FileEntry) : Type 0 where
  pub order : are_in_order (map (λ (e : FileEntry). e.path) old) ≡ true
  pub rules : KeepRules old
  pub none : base ≡ None → old ≡ []

-- It is of these files and folders, is based on the backup of this list that its kind asks for, and leaves what is as
-- these entries state. The marks say of which files the digest is that of the entry.
pub record IsOfflineBy (stanza : Text) (o : OfflineOrder) (list : BackupInfo) (old : List FileEntry) (second : ℕ)
    (equal : List Bool) (listing : Listing) (d : Draft) : Type 0 where
  pub stanza_is : stanza_of d ≡ stanza
  pub label : d.label ≡ made_label o.kind (base_in o.kind list) second
  pub start : d.start ≡ second
  pub prior : d.prior ≡ base_label o.kind list
  pub old_is : old_in d ≡ old
  pub listing_is : d.listing ≡ listing
  pub list_is : list_in d ≡ list
  pub next : IsNext second list
  pub current : at_number list.current list.history ≡ Some d.cluster
  pub choices : d.choices ≡ record { bundle = o.settings.bundle; delta = o.settings.delta }
  pub planned : d.plan.choices.items ≡ (layout o.settings (old_in d) (taken_in d) equal).choices

-- Its files have marks, which with delta say of which of them these links reported the digest of the entry, and it
-- leaves what is as the entries state.
pub record IsPlannedBy (links : List LinkState) (o : OfflineOrder) (d : Draft) : Type 0 where
  pub equal : List Bool
  pub same : length equal ≡ length (taken_in d)
  pub marked : o.settings.delta ≡ true → AreMarked links (old_in d) (taken_in d) equal
  pub planned : d.plan.choices.items ≡ (layout o.settings (old_in d) (taken_in d) equal).choices

-- It is of all that a backup takes of the listing, of a running server or a stopped one, is based on the backup of this
-- list that its kind asks for, and leaves what is as these files state.
pub record IsOfflineOf (online : Bool) (stanza : Text) (o : OfflineOrder) (seen : List ListedNode) (list : BackupInfo)
    (old : List FileEntry) (second : ℕ) (d : Draft) : Type 0 where
  pub stanza_is : stanza_of d ≡ stanza
  pub label : d.label ≡ made_label o.kind (base_in o.kind list) second
  pub start : d.start ≡ second
  pub prior : d.prior ≡ base_label o.kind list
  pub old_is : old_in d ≡ old
  pub takes : Takes online seen (taken_in d) (folders_in d)
  pub list_is : list_in d ≡ list
  pub next : IsNext second list
  pub current : at_number list.current list.history ≡ Some d.cluster
  pub choices : d.choices ≡ record { bundle = o.settings.bundle; delta = o.settings.delta }
  pub equal : List Bool
  pub same : length equal ≡ length (taken_in d)
  pub planned : d.plan.choices.items ≡ (layout o.settings (old_in d) (taken_in d) equal).choices

-- the same for each listing of which a backup takes these files and folders
abbrev pub IsOfflineWith : Text → OfflineOrder → List Taken → List Text → BackupInfo → List FileEntry → ℕ → Draft → Type 0
IsOfflineWith stanza o files folders list old second d =
    (online : Bool) (seen : List ListedNode) → Takes online seen files folders
    → IsOfflineOf online stanza o seen list old second d

-- It is one of a stopped server, with marks that these links reported.
pub record IsDraftedBy (stanza : Text) (o : OfflineOrder) (seen : List ListedNode) (list : BackupInfo)
    (old : List FileEntry) (second : ℕ) (links : List LinkState) (d : Draft) : Type 0 where
  pub later : IsOfflineOf false stanza o seen list old second d
  pub planned : IsPlannedBy links o d

-- the listing is refused, or the clock is behind a second of which this holds; or the links didn't report the digests
abbrev pub StopCause : List ListedNode → ℕ → (ℕ → Type 0) → List LinkState → List Lost → List FileEntry → BackupFault
    → Type 0
StopCause seen least Stated links before old fault = DraftCause seen least Stated fault
    ⊎ EqualCause links before old (files_of (kept false seen)) fault

-- The draft of a backup of any kind (pgBackRest user guide, "Backup"; command reference, "Backup", option type). Own.
use Rattle.std.specs.Prelude.{◌≡◌, ℕ, Bool, List, Option, map, option_map}
use Rattle.base_model.specs.declared.clusters.BackupInfo as rust_info
use Rattle.base_model.specs.declared.clusters.Cluster.{Cluster}
use Rattle.base_model.specs.ManifestText.{IsFileEntry}
use Rattle.base_model.specs.Text.{Text, In}
use Rattle.base_model.specs.Values.{Entry, FileEntry, backup_info_of}
use Rattle.backup_plan.specs.declared.values.Listing.{Listing}
use Rattle.backup_plan.specs.Layout.{layout}
use Rattle.backup_plan.specs.Views.{taken_of}
use Rattle.backup_make.specs.declared.draft.Draft.{Draft}
use Rattle.backup_make.specs.Draft.{old_in, taken_in}
use Rattle.cmd_backup_common.specs.declared.drafts.any_draft.DraftOrder.{DraftOrder}
use Rattle.cmd_backup_common.specs.Priors.{prior_for, made_label}

-- each keeps the rules of a manifest's file
abbrev pub KeepRules : List FileEntry → Type 0
KeepRules files = (folders : List Text) × ((e : FileEntry) → In e files → IsFileEntry folders e)

-- the listed backup that one of this order is based on
abbrev pub prior_in : DraftOrder → Cluster → rust_info.BackupInfo → Option Entry
prior_in order cluster before = prior_for order.kind cluster.id (backup_info_of before).backups

-- It is of these files and folders, is named by this second, and is based on the backup that the order asks for: a file
-- that is as that has it is left.
pub record IsOrdered (stanza : Text) (second : ℕ) (cluster : Cluster) (order : DraftOrder) (equal : List Bool)
    (listing : Listing) (before : rust_info.BackupInfo) (d : Draft) : Type 0 where
  pub stanza_is : d.stanza.now ≡ stanza
  pub label : d.label ≡ made_label order.kind (prior_in order cluster before) second
  pub prior : d.prior ≡ option_map (λ e. e.label) (prior_in order cluster before)
  pub old : d.old.now ≡ order.old.now
  pub start : d.start ≡ second
  pub cluster_is : d.cluster ≡ cluster
  pub choices : d.choices ≡ record { bundle = order.settings.bundle; delta = order.settings.delta }
  pub listing_is : d.listing ≡ listing
  pub before_is : d.before ≡ before
  pub planned : d.plan.choices.items ≡ (layout order.settings (old_in d) (taken_in d) equal).choices

-- the same for the order's stanza
abbrev pub IsOrderedBy : DraftOrder → ℕ → Cluster → List Bool → Listing → rust_info.BackupInfo → Draft → Type 0
IsOrderedBy order second cluster equal listing before d =
    IsOrdered order.stanza.now second cluster order equal listing before d

-- The draft of a full backup (pgBackRest user guide, "Backup"). Own.
use Rattle.std.specs.Prelude.{◌≡◌, ℕ, [], None}
use Rattle.base_model.specs.declared.clusters.BackupInfo as rust_info
use Rattle.base_model.specs.declared.clusters.Cluster.{Cluster}
use Rattle.base_model.specs.Text.{Text}
use Rattle.backup_plan.specs.declared.values.Listing.{Listing}
use Rattle.backup_make.specs.declared.draft.Draft.{Draft}

-- It is of these files and folders, is named by this second, and refers to no other backup.
pub record IsFullOf (stanza : Text) (second : ℕ) (cluster : Cluster) (listing : Listing) (before : rust_info.BackupInfo)
    (d : Draft) : Type 0 where
  pub stanza_is : d.stanza.now ≡ stanza
  pub label : (d.label.full ≡ second) × (d.label.later ≡ None)
  pub prior : d.prior ≡ None
  pub old : d.old.now ≡ []
  pub start : d.start ≡ second
  pub cluster_is : d.cluster ≡ cluster
  pub listing_is : d.listing ≡ listing
  pub before_is : d.before ≡ before

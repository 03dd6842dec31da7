-- What is read of a section of few keys: at each key the value that a manifest has there, and any other where none has.
use Rattle.std.specs.Prelude.{◌≡◌, ℕ, ◌+◌, ◌<◌, ◌≤◌, ◌^◌, List, IfSome, IfNone, codes}
use Rattle.serde_json.specs.Data.{Data, string}
use Rattle.base_model.specs.declared.clusters.Cluster.{Cluster}
use Rattle.base_model.specs.declared.labels.Label.{Label}
use Rattle.base_model.specs.declared.wal.Span.{Span}
use Rattle.base_model.specs.declared.wal.WalPart.{WalPart}
use Rattle.base_model.specs.Text.{Text, In}
use Rattle.base_devices.specs.States.{last_second}
use Rattle.base_model.specs.Fields.{Field, whole}
use Rattle.base_model.specs.InfoFiles.{IsLabel, IsSegment, label_kind, label_value, segment_value, version_value}
use Rattle.base_model.specs.ManifestText.{lsn_text, HasItsPrior, IsSegSize}
use Rattle.repo_manifest.specs.declared.head.Head.{Head}

-- where a value of this kind is at the key, it is this one
abbrev pub IsReadAt : {X : Type 0} → (X → Data) → (X → Type 0) → List Field → Text → X → Type 0
IsReadAt value IsOne ks key x = (y : _) → IsOne y → In (key, value y) ks → x ≡ y

-- the cluster that the keys state
pub record IsClusterRead (ks : List Field) (c : Cluster) : Type 0 where
  pub catalog : IsReadAt whole (λ n. n < 2 ^ 32) ks (codes "db-catalog-version") c.catalog
  pub control : IsReadAt whole (λ n. n < 2 ^ 32) ks (codes "db-control-version") c.control
  pub id : IsReadAt whole (λ n. n < 2 ^ 32) ks (codes "db-id") c.id
  pub system : IsReadAt whole (λ n. n < 2 ^ 64) ks (codes "db-system-id") c.system
  pub version : IsReadAt version_value (λ n. n < 2 ^ 32) ks (codes "db-version") c.version

-- the part of the log that the keys state, whose first key is there
pub record IsLogRead (ks : List Field) (w : WalPart) : Type 0 where
  pub there : (d : Data) × In (codes "backup-archive-start", d) ks
  pub start : IsSegment w.span.start × IsReadAt segment_value IsSegment ks (codes "backup-archive-start") w.span.start
  pub stop : IsSegment w.span.stop × IsReadAt segment_value IsSegment ks (codes "backup-archive-stop") w.span.stop
  pub from : (w.from.0 < 2 ^ 64) × IsReadAt (λ at. string (lsn_text at)) (λ at. at < 2 ^ 64) ks
      (codes "backup-lsn-start") w.from.0
  pub to : (w.to.0 < 2 ^ 64) × IsReadAt (λ at. string (lsn_text at)) (λ at. at < 2 ^ 64) ks (codes "backup-lsn-stop")
      w.to.0
  pub size : IsSegSize w.size.0 × IsReadAt whole IsSegSize ks (codes "backup-wal-segment-size") w.size.0

-- the prior backup that the keys state
abbrev pub IsPriorRead : List Field → Label → Type 0
IsPriorRead ks l = IsLabel l × IsReadAt label_value IsLabel ks (codes "backup-prior") l

-- what the keys say about the backup
pub record IsHeadRead (ks : List Field) (h : Head) : Type 0 where
  pub label : IsLabel h.label × IsReadAt label_value IsLabel ks (codes "backup-label") h.label
  pub kind : h.kind ≡ label_kind h.label
  pub has : HasItsPrior h.kind h.prior
  pub prior : IfSome h.prior (IsPriorRead ks)
  pub start : (h.start ≤ last_second) × IsReadAt whole (λ t. t ≤ last_second) ks (codes "backup-timestamp-start")
      h.start
  pub stop : (h.stop ≤ last_second) × IsReadAt whole (λ t. t ≤ last_second) ks (codes "backup-timestamp-stop") h.stop
  pub log : IfSome h.wal (IsLogRead ks)
  pub none : IfNone h.wal ((d : Data) → ¬ In (codes "backup-archive-start", d) ks)

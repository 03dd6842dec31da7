-- A cluster that a text doesn't state as any manifest does.
use Rattle.std.proofs.Common.{[], ◌∷◌, List, refl, ap}
use Rattle.std.specs.Prelude.{codes}
use Rattle.base_model.specs.declared.clusters.Cluster.{Cluster}
use Rattle.base_model.specs.Text.{Text}
use Rattle.base_model.specs.InfoText.{Section, IsInfo}
use Rattle.base_model.specs.InfoFiles.{cluster_fields, version_value}
use Rattle.base_model.specs.Fields.{Field, whole}
use Rattle.base_model.specs.ManifestText.{manifest_sections, IsManifest}
use Rattle.base_model.specs.Values.{Manifest}
use Rattle.repo_keys.specs.Agree.{IsKeysOf, IsFirstDifference}
use Rattle.repo_manifest.specs.Read.{IsClusterRead}
use Rattle.repo_manifest.specs.Tied.{IsTied}
use Rattle.repo_manifest.specs.Wrong.{IsWrongAt}
use Rattle.repo_manifest.proofs.Named.{db_at}
use Rattle.repo_manifest.proofs.Rows.{HasRows, wrong_row}

pub wrong_cluster : (ss : List Section) → IsInfo ss → (ks : List Field) → IsKeysOf ss (codes "backup:db") ks → (c : Cluster) → IsClusterRead ks c → (key : Text) → IsFirstDifference (cluster_fields c) ks key → IsWrongAt IsManifest manifest_sections IsTied ss (codes "backup:db") key
wrong_cluster ss info ks of c read key differ = wrong_row ss info (codes "backup:db") ks of (λ (m : Manifest). cluster_fields m.cluster) db_at (cluster_fields c) key differ [] (λ a i. absurd i) (λ m rules beside. rows m rules)
  where
    rows : (m : Manifest) → IsManifest m → HasRows key (cluster_fields m.cluster) (cluster_fields c) ks
    rows m rules = record {
      rows = record { key = codes "db-catalog-version"; own = whole m.cluster.catalog; read = whole c.catalog }
          ∷ record { key = codes "db-control-version"; own = whole m.cluster.control; read = whole c.control }
          ∷ record { key = codes "db-id"; own = whole m.cluster.id; read = whole c.id }
          ∷ record { key = codes "db-system-id"; own = whole m.cluster.system; read = whole c.system }
          ∷ record { key = codes "db-version"; own = version_value m.cluster.version; read = version_value c.version } ∷ [];
      own = refl;
      read = refl;
      each = (
        λ named i. ap whole (read.catalog m.cluster.catalog rules.cluster.catalog i),
        (
          λ named i. ap whole (read.control m.cluster.control rules.cluster.control i),
          (
            λ named i. ap whole (read.id m.cluster.id rules.cluster.id i),
            (λ named i. ap whole (read.system m.cluster.system rules.cluster.system i), (λ named i. ap version_value (read.version m.cluster.version rules.cluster.version i), tt)),
          ),
        ),
      );
    }

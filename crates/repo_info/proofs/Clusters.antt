-- The values that represent clusters are built.
use Rattle.std.proofs.Common.{refl, arith}
use Rattle.base_model.specs.declared.clusters.ClusterId.{ClusterId}
use Rattle.base_model.specs.declared.clusters.Cluster.{Cluster}
use Rattle.base_model.specs.InfoFiles.{IsClusterId, cluster_id_fields, cluster_id_field, IsCluster, cluster_fields, cluster_field}
use Rattle.repo_ini.specs.Built.{IsBuilt}
use Rattle.base_text.proofs.Decimals.{IsUtf8-decimal}
use Rattle.repo_ini.proofs.Objects.{IsBuilt-object}
use Rattle.repo_ini.proofs.Sizes.{KeysAreBuilt}

pub built_identity_fields : (c : ClusterId) → IsClusterId c → KeysAreBuilt (cluster_id_fields c)
built_identity_fields c h = (omega arith, (h.system, (IsUtf8-decimal c.version (omega arith), tt)))

pub built_identity : (c : ClusterId) → IsClusterId c → IsBuilt (cluster_id_field c).1
built_identity c h = IsBuilt-object (cluster_id_field c).1 refl (h.system, (IsUtf8-decimal c.version (omega arith), tt))

pub built_cluster_fields : (c : Cluster) → IsCluster c → KeysAreBuilt (cluster_fields c)
built_cluster_fields c h = (omega arith, (omega arith, (omega arith, (h.system, (IsUtf8-decimal c.version (omega arith), tt)))))

pub built_cluster : (c : Cluster) → IsCluster c → IsBuilt (cluster_field c).1
built_cluster c h = IsBuilt-object (cluster_field c).1 refl (omega arith, (omega arith, (h.system, (IsUtf8-decimal c.version (omega arith), tt))))

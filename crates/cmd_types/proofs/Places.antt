-- Where a stanza's files lie in its archive.
use Rattle.std.proofs.Common.{inl, inr, map, Some, refl}
use Rattle.base_text.specs.Sum.{IsSum}
use Rattle.base_devices.specs.Content.{Content}
use Rattle.base_model.specs.declared.clusters.Cluster.{Cluster}
use Rattle.base_model.specs.declared.wal.ArchiveName.{ArchiveName}
use Rattle.base_model.specs.Text.{Text, In}
use Rattle.base_model.specs.Names.{archive_info}
use Rattle.base_model.specs.Pair.{PairIs}
use Rattle.base_model.specs.Values.{ArchiveInfo}
use Rattle.base_model.specs.InfoFiles.{IsClusterId, IsArchiveInfo, IsArchiveText}
use Rattle.base_model.specs.Repository.{Stanza, identity_of, id_of}
use Rattle.base_model.specs.Represents.{IsWalName, IsArchivePlace, archive_value}
use Rattle.base_model.specs.Now.{NowRepresents}
use Rattle.repo_keys.proofs.Numbers.{all_in, in_map}

rules_of : (f : Content) (name : Text) (v : ArchiveInfo) → PairIs IsArchiveText f name v → IsArchiveInfo v
rules_of f name v (inl m) = m.2.rules
rules_of f name v (inr m) = m.1.2.rules

-- a cluster of the stanza has a folder in the archive
pub place_of : (stanza : Text) (f : Content) (s : Stanza) → NowRepresents stanza (Some s) (Some f) → (name : ArchiveName) → IsWalName name → (d : Cluster) → In d s.history → (sum : Text) → IsSum sum → IsArchivePlace (id_of d) name sum
place_of stanza f s now name fits d listed sum is =
    let has = now.represents f refl in
    let rules = all_in IsClusterId (map identity_of s.history) (identity_of d) (rules_of f (archive_info stanza) (archive_value s) has.archive_pair).clusters (in_map identity_of s.history d listed) in
    record { version = rules.version; number = rules.id; fits = fits; digest = is }

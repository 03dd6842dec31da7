-- What archive-get serves is what the repository has archived.
use Rattle.std.proofs.Common.{◌≡◌, ◌<◌, List, map, Option, Some, None, Err, refl, sym, ap, subst}
use Rattle.std.specs.Prelude.{IsSome}
use Rattle.sha1.specs.Sha1.{sha1}
use Rattle.base_devices.specs.Content.{Content}
use Rattle.base_devices.specs.DataFolder.{Nodes}
use Rattle.base_model.specs.declared.clusters.ClusterId.{ClusterId}
use Rattle.base_model.specs.declared.clusters.Cluster.{Cluster}
use Rattle.base_model.specs.declared.wal.ArchiveName.{ArchiveName}
use Rattle.base_model.specs.Text.{Text, In}
use Rattle.base_model.specs.Names.{archive_info}
use Rattle.base_model.specs.Pair.{PairIs}
use Rattle.base_model.specs.Values.{ArchiveInfo}
use Rattle.base_model.specs.InfoFiles.{IsArchiveText}
use Rattle.base_model.specs.Repository.{Stanza, identity_of, id_of}
use Rattle.base_model.specs.Represents.{HasStanza, IsWalName, archive_value}
use Rattle.base_model.specs.Now.{NowRepresents}
use Rattle.repo_keys.proofs.Numbers.{in_map, map_in}
use Rattle.repo_info.proofs.OneArchive.{one_archive_pair}
use Rattle.repo_stanza.specs.declared.control.Control.{Control}
use Rattle.archive_lookup.specs.declared.stored.fault.ArchiveFault.TheVariants.{NotFound}
use Rattle.archive_lookup.specs.Stored.{StoresNone}
use Rattle.archive_lookup.specs.Causes.{StoresBytes, IsUnarchived}
use Rattle.archive_store.proofs.Got.{got_archived, answer_none}
use Rattle.cmd_types.specs.Current.{id_kept}
use Rattle.cmd_types.proofs.Places.{place_of}
use Rattle.cmd_archive_get.specs.Getting.{IsSame, FoundIn, AbsentIn, IsArchivedFirst, Serves, IsMissing, ServesArchived, LacksArchived}

module _ (stanza : Text) (f : Content) (s : Stanza) (now : NowRepresents stanza (Some s) (Some f)) (name : ArchiveName) (fits : IsWalName name) where
  has : HasStanza stanza f s
  has = now.represents f refl

  unarchived : (d : Cluster) → In d s.history → StoresNone stanza (id_of d) name f → IsUnarchived (id_of d) name s.archived
  unarchived d listed none = answer_none stanza (id_of d) name (place_of stanza f s now name fits d listed) {T = Text} (Some f) ⊥ (Err NotFound) none refl s refl now

  module _ (known : Control) (v : ArchiveInfo) (pair : PairIs IsArchiveText f (archive_info stanza) v) where
    history : v.history ≡ map identity_of s.history
    history = ap (λ (a : ArchiveInfo). a.history) (one_archive_pair f (archive_info stanza) v (archive_value s) pair has.archive_pair)

    listed_in : (d : Cluster) → In d s.history → In (identity_of d) v.history
    listed_in d listed = subst (λ (h : List ClusterId). In (identity_of d) h) (sym history) (in_map identity_of s.history d listed)

    first_of : (bytes : Text) → FoundIn v.history stanza known name bytes f → IsArchivedFirst s known name bytes
    first_of bytes found =
        let x = map_in identity_of s.history found.cluster (subst (λ (h : List ClusterId). In found.cluster h) history found.listed) in
        record {
          cluster = x.0;
          listed = x.1;
          same = subst (IsSame known) x.2 found.same;
          archived = got_archived stanza (id_of x.0) name (place_of stanza f s now name fits x.0 x.1) (Some f) bytes (subst (λ (c : ClusterId). StoresBytes stanza (id_kept c) name f (sha1 bytes) bytes) x.2 found.has) s refl now;
          above = λ d listed same higher. unarchived d listed (found.above (identity_of d) (listed_in d listed) same (subst (λ (c : ClusterId). c.id < d.id) (sym x.2) higher));
        }

    none_of : AbsentIn v.history stanza known name f → (d : Cluster) → In d s.history → IsSame known (identity_of d) → IsUnarchived (id_of d) name s.archived
    none_of absent d listed same = unarchived d listed (absent.none (identity_of d) (listed_in d listed) same)

-- what is served is archived
pub serves_archived : (stanza folder word path : Text) (repo : Option Content) (nodes after : Option Nodes) (s : Stanza) → IsSome repo → NowRepresents stanza (Some s) repo → Serves stanza folder word path repo nodes after → ServesArchived s folder word path nodes after
serves_archived stanza folder word path None nodes after s some now h = cc
serves_archived stanza folder word path (Some f) nodes after s some now h =
    let served = h.1 in
    let found = served.found in
    record {
      name = served.name;
      known = served.known;
      bytes = h.0;
      wanted = served.wanted;
      first = first_of stanza f s now served.name served.wanted.named.fits served.known found.0 found.1 h.0 found.2;
      at_path = h.2;
    }

-- what isn't found isn't archived
pub misses_archived : (stanza folder word path : Text) (repo : Option Content) (nodes : Option Nodes) (s : Stanza) → IsSome repo → NowRepresents stanza (Some s) repo → IsMissing stanza folder word path repo nodes → LacksArchived s folder word path nodes
misses_archived stanza folder word path None nodes s some now h = cc
misses_archived stanza folder word path (Some f) nodes s some now h =
    record { name = h.name; known = h.known; wanted = h.wanted; none = none_of stanza f s now h.name h.wanted.named.fits h.known h.absent.0 h.absent.1 h.absent.2.1 }

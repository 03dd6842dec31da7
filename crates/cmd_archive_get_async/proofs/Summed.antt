-- A segment is found by the sum that the repository's name states.
use Rattle.std.proofs.Common.{◌≡◌, Option, Some, None, sym, subst}
use Rattle.std.specs.Prelude.{IfSome}
use Rattle.sha1.specs.Sha1.{sha1}
use Rattle.base_text.specs.declared.sum.Sum.{Sum}
use Rattle.base_devices.specs.Content.{Content}
use Rattle.base_devices.specs.DataFolder.{Nodes}
use Rattle.base_model.specs.declared.wal.ArchiveName.{ArchiveName}
use Rattle.base_model.specs.declared.wal.ArchiveName.TheVariants.{Segment as Whole}
use Rattle.base_model.specs.declared.wal.Segment.{Segment}
use Rattle.base_model.specs.Text.{Text}
use Rattle.repo_stanza.specs.declared.control.Control.{Control}
use Rattle.archive_lookup.specs.declared.stored.files.Stored.{Stored}
use Rattle.archive_lookup.specs.Stored.{StoresOnly}
use Rattle.cmd_types.specs.Cluster.{FolderShows}
use Rattle.cmd_types.specs.Current.{id_kept}
use Rattle.cmd_archive_get.specs.Getting.{AreArguments, ChangesPath, IsAbsent, IsFound, IsMissing, IsPut, IsServed, IsWanted, Serves, served_path}
use Rattle.cmd_archive_get.specs.Looking.{IsKeptAs}
use Rattle.cmd_archive_get.specs.Serving.{AreStoredAt}
use Rattle.cmd_archive_get.proofs.Folders.{changes_as}
use Rattle.cmd_archive_get_async.proofs.Fetched.{known_only}
use Rattle.cmd_archive_get_async.specs.Getting.{IsFoundBySum, IsServedBySum, ServesBySum}

-- ---- the highest id that has it

module _ (stanza : Text) (known : Control) (segment : Segment) (file : Stored) (s : Sum) (is : file.sum ≡ Some s) (bytes : Text) (digest : sha1 bytes ≡ s.0) where
  pub kept_found : (o : Option Content) → IsKeptAs stanza known (Whole segment) file o → IsFoundBySum stanza known (Whole segment) o bytes
  kept_found None h = tt
  kept_found (Some f) h =
      let k = h.2 in (
        h.0,
        h.1,
        record {
          cluster = k.cluster;
          listed = k.listed;
          same = k.same;
          above = k.above;
          only = subst (λ (x : Text). StoresOnly stanza (id_kept k.cluster) (Whole segment) f x) (sym digest) (known_only stanza (id_kept k.cluster) segment file s is f k.finds);
        },
      )

-- what is found with its bytes is found by their sum
pub found_summed : (stanza : Text) (known : Control) (name : ArchiveName) (o : Option Content) (bytes : Text) → IsFound stanza known name o bytes → IsFoundBySum stanza known name o bytes
found_summed stanza known name None bytes h = tt
found_summed stanza known name (Some f) bytes h =
    let k = h.2 in
    (h.0, h.1, record { cluster = k.cluster; listed = k.listed; same = k.same; above = k.above; only = k.has.only })

pub served_summed : (stanza folder word path : Text) (o : Option Content) (nodes : Option Nodes) (bytes : Text) → IsServed stanza folder word path o nodes bytes → IsServedBySum stanza folder word path o nodes bytes
served_summed stanza folder word path o nodes bytes h = record { name = h.name; known = h.known; wanted = h.wanted; found = found_summed stanza h.known h.name o bytes h.found }

pub serves_summed : (stanza folder word path : Text) (o : Option Content) (nodes now_nodes : Option Nodes) → Serves stanza folder word path o nodes now_nodes → ServesBySum stanza folder word path o nodes now_nodes
serves_summed stanza folder word path o nodes now_nodes h = (h.0, served_summed stanza folder word path o nodes h.0 h.1, h.2)

-- ---- what the order asks for

module _ (stanza folder word path : Text) (nodes : Option Nodes) (name : ArchiveName) (known : Control) (arguments : AreArguments folder word path name) (shows : IfSome nodes (λ f. FolderShows f known)) (o : Option Content) where
  pub wanted_by : IsWanted folder word path nodes name known
  wanted_by = record { named = arguments.0; inside = arguments.1; shows = shows }

  pub missing_by : IsAbsent stanza known name o → IsMissing stanza folder word path o nodes
  missing_by absent = record { name = name; known = known; wanted = wanted_by; absent = absent }

  -- a fetched segment is served
  module _ (segment : Segment) (whole : name ≡ Whole segment) (file : Stored) (s : Sum) (is : file.sum ≡ Some s) (kept : IsKeptAs stanza known name file o) where
    pub summed_by : (bytes : Text) → sha1 bytes ≡ s.0 → IsServedBySum stanza folder word path o nodes bytes
    summed_by bytes digest = record {
      name = name;
      known = known;
      wanted = wanted_by;
      found = subst (λ (n : ArchiveName). IsFoundBySum stanza known n o bytes) (sym whole) (kept_found stanza known segment file s is bytes digest o (subst (λ (n : ArchiveName). IsKeptAs stanza known n file o) whole kept));
    }

    pub taken_by : (below : Text) → below ≡ served_path folder path → (now_nodes : Option Nodes) (bytes : Text) → sha1 bytes ≡ s.0 → IfSome now_nodes (IsPut below bytes) → ServesBySum stanza folder word path o nodes now_nodes
    taken_by below at now_nodes bytes digest there = (bytes, summed_by bytes digest, subst (λ (p : Text). IfSome now_nodes (IsPut p bytes)) at there)

    pub taken_changes : (below : Text) → below ≡ served_path folder path → (now_nodes : Option Nodes) (spool : Option Content) (name : Text) → ChangesPath below (AreStoredAt spool name s.0) nodes now_nodes
        → ChangesPath (served_path folder path) (IsServedBySum stanza folder word path o nodes) nodes now_nodes
    taken_changes below at now_nodes spool name h =
        changes_as (served_path folder path) (AreStoredAt spool name s.0) (IsServedBySum stanza folder word path o nodes) nodes now_nodes (λ bytes there. summed_by bytes there.1)
        (subst (λ (p : Text). ChangesPath p (AreStoredAt spool name s.0) nodes now_nodes) at h)

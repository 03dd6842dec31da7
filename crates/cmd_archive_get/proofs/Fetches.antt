-- A file of the archive is found in the repository, and served.
use Rattle.std.proofs.Common.{◌≡◌, Bool, true, false, Option, Some, None, Ok, refl, sym, subst}
use Rattle.std.specs.Prelude.{IfSome}
use Rattle.base_devices.specs.Content.{Content}
use Rattle.base_devices.specs.DataFolder.{Nodes}
use Rattle.base_model.specs.declared.clusters.ClusterId.{ClusterId}
use Rattle.base_model.specs.declared.wal.ArchiveName.{ArchiveName}
use Rattle.base_model.specs.Text.{Text}
use Rattle.base_model.specs.Fields.{at_number}
use Rattle.base_model.specs.Names.{archive_info}
use Rattle.base_model.specs.Pair.{PairIs}
use Rattle.base_model.specs.Values.{ArchiveInfo}
use Rattle.base_model.specs.InfoFiles.{IsArchiveText}
use Rattle.repo_stanza.specs.declared.control.Control.{Control}
use Rattle.cmd_types.specs.declared.stages.halt.Halt.{Halt}
use Rattle.cmd_types.specs.declared.stages.halt.Halt.TheVariants.{Refused}
use Rattle.cmd_types.specs.Halts.{HaltCause}
use Rattle.cmd_archive_get.specs.declared.fault.GetFault.{GetFault}
use Rattle.cmd_archive_get.specs.declared.fault.GetFault.TheVariants.{SegmentName, PathOutside, StanzaMismatch, Ambiguous, SegmentDamaged, TooLong}
use Rattle.cmd_types.specs.Cluster.{FolderShows}
use Rattle.repo_stanza.specs.Pairs.{identity_kept, identity_known}
use Rattle.cmd_archive_get.specs.Getting.{AreArguments, served_path, HasSame, IsForeign, IsFound, IsAbsent, IsServed, IsPut, ChangesPath, Serves, IsWanted, IsMissing, FetchCause}
use Rattle.cmd_archive_get.specs.Serving.{RoseIn, Puts, SearchCause}
use Rattle.cmd_archive_get.proofs.Folders.{changes_as}

module _ (stanza : Text) (known : Control) (name : ArchiveName) (repo : Option Content) (v : ArchiveInfo) (pair : IfSome repo (λ f. PairIs IsArchiveText f (archive_info stanza) v)) where
  -- the history has no cluster of the data folder
  pub foreign : (rose fell : Type 0) (halt : Halt GetFault) → ¬ HasSame v.history known
      → ((c : ClusterId) × (at_number v.current v.history ≡ Some c) × (halt ≡ Refused (StanzaMismatch (identity_kept c) (identity_known known)))) →
      HaltCause (FetchCause stanza known name repo) (RoseIn rose fell) halt
  foreign rose fell halt none x = subst (HaltCause (FetchCause stanza known name repo) (RoseIn rose fell)) (sym x.2) (refl, (x.0, refl, kept repo pair))
    where
      kept : (o : Option Content) → IfSome o (λ f. PairIs IsArchiveText f (archive_info stanza) v)
          → IfSome o (IsForeign stanza known x.0)
      kept None p = tt
      kept (Some f) p = (v, p, (x.1, none))

  -- a search of the history failed
  pub sought : (e : GetFault) → SearchCause v.history stanza known name repo e → FetchCause stanza known name repo e
  sought (SegmentName a) h = absurd h
  sought (PathOutside a) h = absurd h
  sought (StanzaMismatch a b) h = absurd h
  sought (Ambiguous a b) h = (v, pair, h)
  sought (SegmentDamaged a b) h = (v, pair, h)
  sought (TooLong a b) h = (v, pair, h)

-- what the order asks for
module _ (stanza folder word path : Text) (repo : Option Content) (nodes : Option Nodes) (name : ArchiveName) (known : Control) (below : Text) (arguments : AreArguments folder word path name) (shows : IfSome nodes (λ f. FolderShows f known)) (is : below ≡ served_path folder path) where
  wanted : IsWanted folder word path nodes name known
  wanted = record { named = arguments.0; inside = arguments.1; shows = shows }

  is_served : (bytes : Text) → IsFound stanza known name repo bytes → IsServed stanza folder word path repo nodes bytes
  is_served bytes found = record { name = name; known = known; wanted = wanted; found = found }

  -- the file was found, and was put in its place
  pub serves : (now_nodes : Option Nodes) (b : Bool) → b ≡ true
      → Puts (Ok b) (IsFound stanza known name repo) (IsAbsent stanza known name repo) below nodes now_nodes
      → Serves stanza folder word path repo nodes now_nodes
  serves now_nodes true is_true h = (h.0, is_served h.0 h.1, subst (λ (p : Text). IfSome now_nodes (IsPut p h.0)) is h.2)
  serves now_nodes false is_true h = cc

  -- or may have been
  pub serves_only : (now_nodes : Option Nodes) → ChangesPath below (IsFound stanza known name repo) nodes now_nodes
      → ChangesPath (served_path folder path) (IsServed stanza folder word path repo nodes) nodes now_nodes
  serves_only now_nodes goes = changes_as (served_path folder path) (IsFound stanza known name repo) (IsServed stanza folder word path repo nodes) nodes now_nodes is_served (subst (λ (p : Text). ChangesPath p (IsFound stanza known name repo) nodes now_nodes) is goes)

  -- no id has the file
  pub misses : (now_nodes : Option Nodes) (b : Bool) → b ≡ false
      → Puts (Ok b) (IsFound stanza known name repo) (IsAbsent stanza known name repo) below nodes now_nodes
      → IsMissing stanza folder word path repo nodes
  misses now_nodes true is_false h = cc
  misses now_nodes false is_false h = record { name = name; known = known; wanted = wanted; absent = h.0 }

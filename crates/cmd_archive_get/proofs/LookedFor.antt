-- Where a file of the archive is stored, in what the repository holds and in what a crash leaves.
use Rattle.std.proofs.Common.{◌≡◌, inl, inr, List, ◌∷◌, ◌++◌, Option, Some, None, Result, Ok, Err, IfOk, refl, sym, subst}
use Rattle.std.specs.Prelude.{IfSome, IsSomeAnd, map, length, string_bytes}
use Rattle.base_devices.specs.Content.{Content}
use Rattle.base_devices.specs.Moments.{View}
use Rattle.base_model.specs.declared.clusters.ClusterId.{ClusterId}
use Rattle.base_model.specs.declared.wal.ArchiveId.{ArchiveId}
use Rattle.base_model.specs.declared.wal.ArchiveName.{ArchiveName}
use Rattle.base_model.specs.InfoFiles.{AreFrom}
use Rattle.base_model.specs.Text.{Text, In}
use Rattle.base_model.specs.Values.{ArchiveInfo}
use Rattle.repo_stanza.specs.declared.control.Control.{Control}
use Rattle.archive_store.specs.Pushes.{IsPathOf}
use Rattle.archive_store.proofs.AlikeFiles.{alike_none, alike_only}
use Rattle.archive_lookup.specs.declared.stored.files.Stored.{Stored}
use Rattle.archive_lookup.specs.Stored.{Finds, IsStoredFile, archive_path}
use Rattle.archive_lookup.proofs.Owns.{stored_has}
use Rattle.cmd_types.specs.Current.{HasValue, id_kept}
use Rattle.cmd_types.specs.declared.stages.halt.Halt.{Halt}
use Rattle.cmd_archive_get.specs.declared.fault.GetFault.{GetFault}
use Rattle.cmd_archive_get.specs.Getting.{IsSame, HasSame, AbsentIn}
use Rattle.cmd_archive_get.specs.Looking.{KeptIn, FindsIn, FindsUnder, IsLookedUp}
use Rattle.cmd_archive_get.specs.Serving.{EndsAlike, IsLeft}
use Rattle.cmd_archive_get.proofs.Left.{at_paths}
use Rattle.cmd_archive_get.proofs.Searches.{above_in, listed_in}

-- ---- contents that agree at the file's paths

module _ (stanza : Text) (id : ArchiveId) (name : ArchiveName) (f g : Content) (same : (n : Text) → IsPathOf stanza id name n → g n ≡ f n) where
  alike_finds : (r : Option Stored) → Finds stanza id name f r → Finds stanza id name g r
  alike_finds None none = alike_none stanza id name f g same none
  alike_finds (Some file) h =
      let s = h.2 in
      let sum = h.3.0 in
      let only = h.3.1 in
      let path = h.3.2 in
      let fits = (stored_has name (f (archive_path stanza id name sum)) sum only.stored).0 in (
        h.0,
        h.1,
        record {
          sum = s.sum;
          fits = s.fits;
          path = s.path;
          known = s.known;
          size = subst (λ (o : Option Text). IsSomeAnd o (λ bytes. length bytes ≡ file.size)) (sym (same (string_bytes file.path) (sum, fits, path))) s.size;
        },
        (sum, alike_only stanza id name f g same sum only, path),
      )

pub finds_left : (stanza : Text) (id : ArchiveId) (name : ArchiveName) (a d : View) → d.now ≡ a.now → EndsAlike stanza id name a d → (r : Option Stored) (f : Option Content) → IsLeft stanza a d f →
    IfSome a.now (λ g. Finds stanza id name g r) → IfSome f (λ g. Finds stanza id name g r)
finds_left stanza id name a d same alike r f (inl is) h = subst (λ (o : Option Content). IfSome o (λ g. Finds stanza id name g r)) (sym is) h
finds_left stanza id name a d same alike r f (inr (synced, some, (g, is, leaves))) h =
    let x = at_paths stanza id name a d same alike synced some g leaves in
    subst (λ (o : Option Content). IfSome o (λ g. Finds stanza id name g r)) (sym is)
    (alike_finds stanza id name x.0 g x.2 r (subst (λ (o : Option Content). IfSome o (λ g. Finds stanza id name g r)) x.1 h))

-- of the id of a cluster, which is the data folder's
pub under_finds : (stanza : Text) (cluster : ClusterId) (known : Control) (name : ArchiveName) → IsSame known cluster → (r : Option Stored) (f : Option Content) → IfSome f (λ g. Finds stanza (id_kept cluster) name g r) → FindsUnder cluster stanza known name r f
under_finds stanza cluster known name same None f h = λ of. h
under_finds stanza cluster known name same (Some file) f h = (same, h)

-- ---- the ids of a history

module _ (stanza : Text) (known : Control) (name : ArchiveName) (history xs : List ClusterId) (c : ClusterId) (ys : List ClusterId) (is : history ≡ xs ++ c ∷ ys) (from : AreFrom 1 (map (λ (k : ClusterId). k.id) history)) where
  pub kept_in : (file : Stored) (f : Option Content) → FindsUnder c stanza known name (Some file) f → IfSome f (AbsentIn ys stanza known name) → IfSome f (FindsIn history stanza known name (Some file))
  kept_in file None h absent = tt
  kept_in file (Some f) h absent = record {
    cluster = c;
    listed = listed_in stanza known name history xs c ys is from h.0;
    same = h.0;
    above = above_in stanza known name history xs c ys is from h.0 f absent;
    finds = h.1;
  }

-- ---- the archive pair's history

pub looked_up : (stanza : Text) (known : Control) (name : ArchiveName) (v : ArchiveInfo) → HasSame v.history known → (r : Option Stored) (f : Option Content) → IfSome f (λ g. HasValue stanza g v) → IfSome f (FindsIn v.history stanza known name r) → IsLookedUp stanza known name r f
looked_up stanza known name v same (Some file) None pair h = tt
looked_up stanza known name v same (Some file) (Some f) pair h = (v, pair, h)
looked_up stanza known name v same None None pair h = tt
looked_up stanza known name v same None (Some f) pair h = (v, pair, (same, h))

pub looks_up : (stanza : Text) (known : Control) (name : ArchiveName) (v : ArchiveInfo) → HasSame v.history known → (a d : View) (result : Result (Option Stored) (Halt GetFault)) →
    IfOk result (λ r. (f : Option Content) → IsLeft stanza a d f → IfSome f (FindsIn v.history stanza known name r)) →
    IfOk result (λ r. (f : Option Content) → IsLeft stanza a d f → IfSome f (λ g. HasValue stanza g v) → IsLookedUp stanza known name r f)
looks_up stanza known name v same a d (Ok r) h = λ f left pair. looked_up stanza known name v same r f pair (h f left)
looks_up stanza known name v same a d (Err halt) h = tt

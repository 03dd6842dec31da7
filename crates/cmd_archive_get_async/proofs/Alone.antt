-- What is taken of the spool is what the repository has archived, where no two contents share a SHA-1.
use Rattle.std.proofs.Common.{◌≡◌, List, map, Option, Some, None, refl, ap, ◌∙◌, sym, subst}
use Rattle.std.specs.Prelude.{IfSome, IsSome}
use Rattle.std.proofs.lemmas.List.{append_cancel_left}
use Rattle.sha1.specs.Sha1.{sha1}
use Rattle.base_text.specs.Sum.{IsSum, sum_text}
use Rattle.base_text.specs.declared.sum.Sum.{Sum}
use Rattle.base_text.proofs.Digests.{IsSum-sha1}
use Rattle.base_text.proofs.Sums.{sum_text-injective}
use Rattle.base_devices.specs.Content.{Content}
use Rattle.base_devices.specs.DataFolder.{Nodes}
use Rattle.base_model.specs.declared.clusters.ClusterId.{ClusterId}
use Rattle.base_model.specs.declared.wal.ArchiveId.{ArchiveId}
use Rattle.base_model.specs.declared.wal.ArchiveName.{ArchiveName}
use Rattle.base_model.specs.declared.wal.ArchiveName.TheVariants.{Segment as Whole}
use Rattle.base_model.specs.declared.wal.Segment.{Segment}
use Rattle.base_model.specs.Names.{archive_info}
use Rattle.base_model.specs.Now.{NowRepresents}
use Rattle.base_model.specs.Repository.{Stanza, identity_of}
use Rattle.base_model.specs.Represents.{HasStanza, IsArchivePlace, IsWalName, archive_value}
use Rattle.base_model.specs.Text.{Text, In}
use Rattle.base_model.specs.Values.{ArchiveInfo}
use Rattle.repo_keys.proofs.Numbers.{map_in}
use Rattle.repo_info.proofs.OneArchive.{one_archive_pair}
use Rattle.repo_stanza.specs.declared.control.Control.{Control}
use Rattle.archive_lookup.specs.declared.stored.files.Stored.{Stored}
use Rattle.archive_lookup.specs.OnlyReads.{file_prefix}
use Rattle.archive_lookup.specs.Stored.{archive_path, Finds, StoresOnly}
use Rattle.archive_lookup.proofs.Looked.{with_prefix}
use Rattle.archive_store.proofs.Got.{same_place}
use Rattle.cmd_types.specs.Current.{id_kept}
use Rattle.cmd_types.proofs.Places.{place_of}
use Rattle.cmd_archive_get.specs.Getting.{IsFound, IsPut, IsWanted, Serves, ServesArchived, served_path}
use Rattle.cmd_archive_get.specs.Looking.{IsKeptAs}
use Rattle.cmd_archive_get.specs.Serving.{AreStoredAt}
use Rattle.cmd_archive_get.proofs.Archived.{serves_archived}
use Rattle.cmd_archive_get_async.proofs.Fetched.{known_only}
use Rattle.cmd_archive_get_async.specs.Getting.{NoTwins}

some_known : {X : Type 0} (o : Option X) → IsSome o → (x : X) × (o ≡ Some x)
some_known None some = cc
some_known (Some x) some = (x, refl)

module _ (stanza : Text) (f : Content) (s : Stanza) (has : HasStanza stanza f s) (id : ArchiveId) (segment : Segment) (place : (sum : Text) → IsSum sum → IsArchivePlace id (Whole segment) sum) where
  -- what is stored under a sum has it
  pub stored_digest : (sum kept : Text) → IsSum sum → f (archive_path stanza id (Whole segment) sum) ≡ Some kept → sha1 kept ≡ sum
  stored_digest sum kept is at =
      let x = (has.archived (archive_path stanza id (Whole segment) sum) kept (record { id = id; file = Whole segment; sum = sum; fits = place sum is; is = refl })).0 at in
      let same = same_place stanza id (Whole segment) place x.0 sum is (has.named x.0 x.1) x.2 in
      let named : archive_path stanza id (Whole segment) sum ≡ archive_path stanza id (Whole segment) (sha1 x.0.bytes) =
      x.2 ∙ ap (λ (k : ArchiveId). archive_path stanza k x.0.name (sha1 x.0.bytes)) same.0 ∙ ap (λ (n : ArchiveName). archive_path stanza id n (sha1 x.0.bytes)) same.1 in
      let digits = append_cancel_left (file_prefix stanza id (Whole segment)) (sum_text sum) (sum_text (sha1 x.0.bytes))
      (sym (with_prefix stanza id (Whole segment) sum) ∙ named ∙ with_prefix stanza id (Whole segment) (sha1 x.0.bytes)) in
      ap sha1 x.3 ∙ sym (sum_text-injective sum (sha1 x.0.bytes) is (IsSum-sha1 x.0.bytes) digits)

fits_of : (stanza : Text) (id : ArchiveId) (segment : Segment) (f : Content) (file : Stored) → Finds stanza id (Whole segment) f (Some file) → IsWalName (Whole segment)
fits_of stanza id segment f file finds = subst IsWalName finds.1 finds.2.fits.fits

-- the bytes of the spool that have the sum are those that are stored
module _ (stanza : Text) (known : Control) (segment : Segment) (file : Stored) (x : Sum) (is : file.sum ≡ Some x) (f g : Content) (s : Stanza) (now : NowRepresents stanza (Some s) (Some f)) (at bytes : Text) (alone : NoTwins (Some f) (Some g)) (there : AreStoredAt (Some g) at x.0 bytes) where
  pub twin_found : IsKeptAs stanza known (Whole segment) file (Some f) → IsFound stanza known (Whole segment) (Some f) bytes
  twin_found h =
      let k = h.2 in
      let id = id_kept k.cluster in
      let has = now.represents f refl in
      let only = known_only stanza id segment file x is f k.finds in
      let history : h.0.history ≡ map identity_of s.history = ap (λ (a : ArchiveInfo). a.history) (one_archive_pair f (archive_info stanza) h.0 (archive_value s) h.1 has.archive_pair) in
      let c = map_in identity_of s.history k.cluster (subst (λ (l : List ClusterId). In k.cluster l) history k.listed) in
      let place : (sum : Text) → IsSum sum → IsArchivePlace id (Whole segment) sum =
      subst (λ (d : ClusterId). (sum : Text) → IsSum sum → IsArchivePlace (id_kept d) (Whole segment) sum) (sym c.2) (place_of stanza f s now (Whole segment) (fits_of stanza id segment f file k.finds) c.0 c.1) in
      let kept = some_known (f (archive_path stanza id (Whole segment) x.0)) only.stored.1 in
      let digest = stored_digest stanza f s has id segment place x.0 kept.0 only.stored.0 kept.1 in
      let same : bytes ≡ kept.0 = alone (archive_path stanza id (Whole segment) x.0) at kept.0 bytes kept.1 there.0 (there.1 ∙ sym digest) in
      let sum : sha1 bytes ≡ x.0 = there.1 in (
        h.0,
        h.1,
        record {
          cluster = k.cluster;
          listed = k.listed;
          same = k.same;
          above = k.above;
          has = record {
            only = subst (λ (t : Text). StoresOnly stanza id (Whole segment) f t) (sym sum) only;
            lies = ap (λ (t : Text). f (archive_path stanza id (Whole segment) t)) sum ∙ kept.1 ∙ ap (λ (t : Text). Some t) (sym same);
          };
        },
      )

-- so it is archived
pub twin_served : (stanza folder word path : Text) (o spool : Option Content) (nodes after : Option Nodes) (name : ArchiveName) (known : Control) (segment : Segment) (file : Stored) (x : Sum) → name ≡ Whole segment → file.sum ≡ Some x → IsWanted folder word path nodes name known → IsKeptAs stanza known name file o
    → (at bytes : Text) → AreStoredAt spool at x.0 bytes → IfSome after (IsPut (served_path folder path) bytes) → (s : Stanza) → IsSome o → IsSome spool → NowRepresents stanza (Some s) o → NoTwins o spool → ServesArchived s folder word path nodes after
twin_served stanza folder word path None spool nodes after name known segment file x whole is wanted kept at bytes there put s some some_spool now alone = cc
twin_served stanza folder word path (Some f) None nodes after name known segment file x whole is wanted kept at bytes there put s some some_spool now alone = cc
twin_served stanza folder word path (Some f) (Some g) nodes after name known segment file x whole is wanted kept at bytes there put s some some_spool now alone =
    let found = twin_found stanza known segment file x is f g s now at bytes alone there (subst (λ (n : ArchiveName). IsKeptAs stanza known n file (Some f)) whole kept) in
    let serves : Serves stanza folder word path (Some f) nodes after =
    (bytes, record { name = name; known = known; wanted = wanted; found = subst (λ (n : ArchiveName). IsFound stanza known n (Some f) bytes) (sym whole) found }, put) in
    serves_archived stanza folder word path (Some f) nodes after s some now serves

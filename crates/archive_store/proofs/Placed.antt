-- A file that is put at its path.
use Rattle.std.proofs.Common.{◌≡◌, ◌⊎◌, ⊎_elim, ℕ, Bool, true, List, [], ◌∷◌, ◌++◌, Option, Some, None, refl, ap, ap₂, ◌∙◌, sym, subst, append_assoc}
use Rattle.std.specs.Prelude.{IfSome, IsTrue, codes, string_bytes}
use Rattle.sha1.specs.Sha1.{sha1}
use Rattle.base_text.specs.Sum.{IsSum, sum_text}
use Rattle.base_text.proofs.Digests.{IsSum-sha1}
use Rattle.base_devices.specs.Content.{Name, Content, is_below}
use Rattle.base_devices.specs.Moments.{View, LeavesNoMore}
use Rattle.base_devices.specs.Crash.{Write, IsTemporary, NowChanges}
use Rattle.base_disk.specs.Store.{ChangesOnly}
use Rattle.base_disk.proofs.Below.{below_prefix}
use Rattle.base_disk.proofs.Changes.{only_rests, only_on, only_wide}
use Rattle.base_model.specs.declared.wal.ArchiveId.{ArchiveId}
use Rattle.base_model.specs.declared.wal.ArchiveName.{ArchiveName}
use Rattle.base_model.specs.Text.{Text, ◌⫽◌}
use Rattle.base_model.specs.Names.{archive_folder, archive_text, id_text, wal_text}
use Rattle.base_model.specs.Represents.{IsArchivePlace, IsArchiveFile}
use Rattle.base_model.proofs.Temporary.{file_lasts}
use Rattle.archive_lookup.specs.declared.stored.fault.ArchiveFault.{ArchiveFault}
use Rattle.archive_lookup.specs.declared.stored.fault.ArchiveFault.TheVariants.{HeaderForm, SegmentSize, HeaderMismatch, Ambiguous, Duplicate, NotFound, SegmentDamaged, TooLong, TooMany, Disk, NoMemory}
use Rattle.archive_lookup.specs.declared.stored.stored_lookup.StoredFile.{StoredFile}
use Rattle.archive_lookup.specs.declared.stored.stored_lookup.Look.{Look}
use Rattle.archive_lookup.specs.declared.stored.stored_lookup.Look.TheVariants.{One, Two}
use Rattle.archive_lookup.specs.declared.stored.names.FileNames.{FileNames}
use Rattle.archive_store.specs.Still.{rests_none}
use Rattle.archive_lookup.specs.Stored.{archive_path, StoresOnly, StoresTwo, ChangesArchive}
use Rattle.archive_lookup.specs.Paths.{has_sum, folder_text}
use Rattle.archive_lookup.specs.Causes.{IsFileOf, PushCause}
use Rattle.archive_lookup.specs.OnlyReads.{file_place, dash, sum_digits, path_with, AreNamesOf, Shows, ShowsOne, LookCause}
use Rattle.archive_lookup.proofs.OnePath.{joined}
use Rattle.archive_lookup.proofs.Looked.{place_is, in_place, with_prefix}
use Rattle.archive_store.proofs.Got.{no_header, long_known}
use Rattle.archive_store.proofs.FilePushed.{StoresSome}

-- nothing was changed
pub still_only : (stanza : Text) (v b : View) → LeavesNoMore v b → b.now ≡ v.now → ChangesArchive stanza v b
still_only stanza v b rests same = only_rests (λ n. IsTrue (is_below (archive_folder stanza) n)) v b rests same

pub none_only : (stanza : Text) (v : View) → ChangesArchive stanza v v
none_only stanza v = still_only stanza v v (rests_none v) refl

-- what a look showed, by its answer
module _ (stanza : Text) (id : ArchiveId) (name : ArchiveName) where
  pub looks_as : (o : Option Content) (look known : Look) → look ≡ known → IfSome o (λ f. Shows stanza id name f look) → IfSome o (λ f. Shows stanza id name f known)
  looks_as o look known is shows = subst (λ (l : Look). IfSome o (λ f. Shows stanza id name f l)) is shows

  pub one_only : (kept : StoredFile) (p : Option Content) → IfSome p (λ f. ShowsOne stanza id name f kept) → IfSome p (λ f. StoresOnly stanza id name f kept.sum.0)
  one_only kept None one = tt
  one_only kept (Some f) one = one.only

  pub one_some : (kept : StoredFile) (p : Option Content) → IfSome p (λ f. ShowsOne stanza id name f kept) → IfSome p (StoresSome stanza id name)
  one_some kept None one = tt
  one_some kept (Some f) one = (kept.sum.0, one.only.stored)

-- what a look showed, where the disk's contents are known
abbrev pub Known : Option Content → FileNames → Look → Type 0
Known o names look = IfSome o (λ f. (stanza : Text) (id : ArchiveId) (name : ArchiveName) → AreNamesOf stanza id name names → Shows stanza id name f look)

module _ (stanza : Text) (id : ArchiveId) (name : ArchiveName) (names : FileNames) (of : AreNamesOf stanza id name names) where
  pub shown_one : (o : Option Content) (look : Look) (kept : StoredFile) → look ≡ One kept → Known o names look → IfSome o (StoresSome stanza id name)
  shown_one None look kept is known = tt
  shown_one (Some f) look kept is known = let one : ShowsOne stanza id name f kept = subst (λ (l : Look). Shows stanza id name f l) is (known stanza id name of) in (kept.sum.0, one.only.stored)

  pub shown_two : (o : Option Content) (look : Look) (a b : _) → look ≡ Two a b → Known o names look → IfSome o (StoresSome stanza id name)
  shown_two None look a b is known = tt
  shown_two (Some f) look a b is known = let two : StoresTwo stanza id name f (string_bytes a) (string_bytes b) = subst (λ (l : Look). Shows stanza id name f l) is (known stanza id name of) in (two.first_sum, two.first_stored)

  -- the names by their texts
  pub temporary_of : IsTemporary (string_bytes names.temporary)
  temporary_of = record { prefix = file_place stanza id name ++ 47 ∷ []; is = of.temporary ∙ sym (append_assoc (file_place stanza id name) (47 ∷ []) (codes ".pgbackrest.tmp")) }

  pub name_of : (sum : Text) → path_with names sum ≡ archive_path stanza id name sum
  name_of sum = ap₂ (λ (t : Text) (b : Bool). t ++ sum_digits b sum) of.prefix of.summed ∙ sym (with_prefix stanza id name sum)

  pub lies_of : (sum : Text) → (folder : Name) × ((rest : Name) × (string_bytes names.temporary ≡ folder ++ 47 ∷ rest)) × ((rest : Name) × (path_with names sum ≡ folder ++ 47 ∷ rest))
  lies_of sum = (file_place stanza id name, (codes ".pgbackrest.tmp", of.temporary), (wal_text name ++ (dash (has_sum name) ++ sum_digits (has_sum name) sum), name_of sum ∙ in_place stanza id name sum))

  temporary_below : is_below (archive_folder stanza) (string_bytes names.temporary) ≡ true
  temporary_below = below_prefix (archive_folder stanza) (id_text id ⫽ joined (folder_text name) (codes ".pgbackrest.tmp")) (string_bytes names.temporary) (of.temporary ∙ sym (place_is stanza id name (codes ".pgbackrest.tmp")))

  name_below : (sum : Text) → is_below (archive_folder stanza) (path_with names sum) ≡ true
  name_below sum = below_prefix (archive_folder stanza) (id_text id ⫽ archive_text name (sum_text sum)) (path_with names sum) (name_of sum)

  -- what was read, and then put
  pub put_only : (sum : Text) (v b d : View) → LeavesNoMore v b → b.now ≡ v.now → ChangesOnly (λ n. (n ≡ string_bytes names.temporary) ⊎ (n ≡ path_with names sum)) b d → ChangesArchive stanza v d
  put_only sum v b d rests same only = only_on (λ n. IsTrue (is_below (archive_folder stanza) n)) v b d (still_only stanza v b rests same)
      (only_wide (λ n. (n ≡ string_bytes names.temporary) ⊎ (n ≡ path_with names sum)) (λ n. IsTrue (is_below (archive_folder stanza) n)) b d
      (λ n h. ⊎_elim (λ (e : n ≡ string_bytes names.temporary). ap (is_below (archive_folder stanza)) e ∙ temporary_below) (λ (e : n ≡ path_with names sum). ap (is_below (archive_folder stanza)) e ∙ name_below sum) h) only)

  module _ (place : (sum : Text) → IsSum sum → IsArchivePlace id name sum) (bytes sum : Text) (is_sum : sum ≡ sha1 bytes) where
    fits : IsArchivePlace id name (sha1 bytes)
    fits = place (sha1 bytes) (IsSum-sha1 bytes)

    file : IsArchiveFile stanza (archive_path stanza id name (sha1 bytes))
    file = record { id = id; file = name; sum = sha1 bytes; fits = fits; is = refl }

    name_is : path_with names sum ≡ archive_path stanza id name (sha1 bytes)
    name_is = name_of sum ∙ ap (archive_path stanza id name) is_sum

    pub lasting_of : ¬ IsTemporary (path_with names sum)
    lasting_of t = file_lasts stanza (archive_path stanza id name (sha1 bytes)) file (subst (λ (n : Text). IsTemporary n) name_is t)

    pub put_goes : (Of : List Write → Content → Content → Type 0) (old mid new : Option Content) → mid ≡ old → NowChanges (Of ((path_with names sum, bytes) ∷ [])) mid new → NowChanges (Of ((archive_path stanza id name (sha1 bytes), bytes) ∷ [])) old new
    put_goes Of old mid new same goes = subst (λ (o : Option Content). NowChanges (Of ((archive_path stanza id name (sha1 bytes), bytes) ∷ [])) o new) same (subst (λ (n : Text). NowChanges (Of ((n, bytes) ∷ [])) mid new) name_is goes)

-- ---- why a look fails

pub push_cause : (stanza : Text) (id : ArchiveId) (name : ArchiveName) (names : FileNames) → AreNamesOf stanza id name names → (system : ℕ) (bytes : Text) → IsFileOf name bytes system
    → (o : Option Content) (rose : Type 0) (e : ArchiveFault) → LookCause names o rose e → PushCause stanza id name system bytes o rose e
push_cause stanza id name names of system bytes is o rose (HeaderForm i) h = absurd h
push_cause stanza id name names of system bytes is o rose (SegmentSize t f) h = absurd h
push_cause stanza id name names of system bytes is o rose (HeaderMismatch k f) h = absurd h
push_cause stanza id name names of system bytes is o rose (Ambiguous x y) h = absurd h
push_cause stanza id name names of system bytes is o rose (Duplicate k f) h = absurd h
push_cause stanza id name names of system bytes is o rose NotFound h = h
push_cause stanza id name names of system bytes is o rose (SegmentDamaged t f) h = h
push_cause stanza id name names of system bytes is o rose (TooLong path limit) h =
    let unsummed = sym of.summed ∙ h.0 in
    let long = long_known stanza id name names of unsummed o (string_bytes path) limit h.1 h.2 h.3 in (no_header name unsummed, long.0, long.1)
push_cause stanza id name names of system bytes is o rose (TooMany l) h = h
push_cause stanza id name names of system bytes is o rose Disk h = (is, h)
push_cause stanza id name names of system bytes is o rose NoMemory h = is

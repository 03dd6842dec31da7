-- The push of a file, as a part of a command.
use Rattle.std.proofs.Common.{◌≡◌, [], ◌∷◌, Bool, true, false, Option, Some, None, refl, ap, ap₂, ◌∙◌, sym, subst}
use Rattle.std.specs.Prelude.{IsSome, IfSome, if◌then◌else◌}
use Rattle.std.proofs.lemmas.Slice.Eq.{bytes_eq-Decides}
use Rattle.sha1.specs.Sha1.{sha1}
use Rattle.base_text.specs.Sum.{IsSum}
use Rattle.base_text.proofs.Digests.{IsSum-sha1}
use Rattle.base_devices.specs.Content.{Content}
use Rattle.base_devices.proofs.Nows.{known_as}
use Rattle.base_model.specs.declared.wal.ArchiveId.{ArchiveId}
use Rattle.base_model.specs.declared.wal.ArchiveName.{ArchiveName}
use Rattle.base_model.specs.declared.wal.ArchiveName.TheVariants.{Segment as Whole, Partial, History, Backup}
use Rattle.base_model.specs.Text.{Text, ◌⫽◌, In}
use Rattle.base_model.specs.Names.{id_text, wal_text}
use Rattle.base_model.specs.Repository.{Archived, Stanza}
use Rattle.base_model.specs.Represents.{HasStanza, IsArchivePlace, stored_name}
use Rattle.base_model.specs.Steps.{Push, push_of, is_archived, is_same_file, has_other}
use Rattle.base_model.specs.Now.{NowRepresents}
use Rattle.base_model.proofs.Pushed.{at_known, file_of, archived_as, archived_by, no_other}
use Rattle.archive_lookup.specs.Stored.{archived_file, archive_path, HasSum, Stores, StoresNone, StoresOnly}
use Rattle.archive_lookup.proofs.Cuts.{divided}
use Rattle.archive_lookup.proofs.OnePath.{id_lacks, id_of_text, wal_injective}
use Rattle.archive_lookup.proofs.Owns.{has_own, stored_has}
use Rattle.archive_store.specs.declared.pushing.Pushed.{Pushed}
use Rattle.archive_store.specs.declared.pushing.Pushed.TheVariants.{New, Same}
use Rattle.archive_store.proofs.Got.{held_archived}

-- f stores the file with some sum
abbrev pub StoresSome : Text → ArchiveId → ArchiveName → Content → Type 0
StoresSome stanza id name f = (sum : Text) × Stores stanza id name f sum

none_of_it : (o : Option Text) → (IsSome o → ⊥) → o ≡ None
none_of_it None off = refl
none_of_it (Some x) off = absurd (off refl)

no_bytes : (o : Option Text) → ((bytes : Text) → o ≡ Some bytes → ⊥) → o ≡ None
no_bytes None off = refl
no_bytes (Some x) off = absurd (off x refl)

push_chosen : (a : Archived) (archived : Bool) → (archived ≡ true → ⊥) → (if archived then [] else Push a ∷ []) ≡ Push a ∷ []
push_chosen a true off = absurd (off refl)
push_chosen a false off = refl

none_chosen : (a : Archived) (archived : Bool) → archived ≡ true → (if archived then [] else Push a ∷ []) ≡ []
none_chosen a true e = refl
none_chosen a false e = cc e

-- nothing is at a path of a file that isn't stored
pub lacks_at : (stanza : Text) (id : ArchiveId) (name : ArchiveName) (f : Content) → StoresNone stanza id name f → (bytes : Text) → f (archive_path stanza id name (sha1 bytes)) ≡ None
lacks_at stanza id (Whole s) f lacks bytes = none_of_it (f (archive_path stanza id (Whole s) (sha1 bytes))) (λ some. lacks (sha1 bytes) (IsSum-sha1 bytes, some))
lacks_at stanza id (Partial s) f lacks bytes = none_of_it (f (archive_path stanza id (Partial s) (sha1 bytes))) (λ some. lacks (sha1 bytes) (IsSum-sha1 bytes, some))
lacks_at stanza id (History t) f lacks bytes = no_bytes (f (archive_path stanza id (History t) (sha1 bytes))) (λ b is. lacks (sha1 b) (subst (λ (o : Option Text). HasSum (History t) o (sha1 b)) (sym is) (has_own (History t) b)))
lacks_at stanza id (Backup s n) f lacks bytes = no_bytes (f (archive_path stanza id (Backup s n) (sha1 bytes))) (λ b is. lacks (sha1 b) (subst (λ (o : Option Text). HasSum (Backup s n) o (sha1 b)) (sym is) (has_own (Backup s n) b)))

module _ (stanza : Text) (id : ArchiveId) (name : ArchiveName) (place : (sum : Text) → IsSum sum → IsArchivePlace id name sum) (bytes : Text) where
  abbrev a : Archived
  a = archived_file id name bytes

  fits : IsArchivePlace id name (sha1 bytes)
  fits = place (sha1 bytes) (IsSum-sha1 bytes)

  -- a file of its id and name by their texts is so
  alike : (x : Archived) → IsArchivePlace x.id x.name (sha1 x.bytes) → is_same_file a x ≡ true → (x.id ≡ id) × (x.name ≡ name)
  alike x of same =
      let e = (bytes_eq-Decides (id_text id ⫽ wal_text name) (id_text x.id ⫽ wal_text x.name)).0 same in
      let d = divided 47 (id_text x.id) (id_text id) (wal_text x.name) (wal_text name) (id_lacks x.id) (id_lacks id) (sym e) in
      (id_of_text x.id id of.version of.number fits.version fits.number d.0, wal_injective x.name name of.fits fits.fits d.1)

  -- f stores an archived file of its id and name as this one, with the sum of its own bytes
  stored_as : (f : Content) (s : Stanza) → HasStanza stanza f s → (x : Archived) → In x s.archived → is_same_file a x ≡ true → Stores stanza id name f (sha1 x.bytes)
  stored_as f s h x at same =
      let of = h.named x at in
      let k = alike x of same in
      let path : stored_name stanza x ≡ archive_path stanza id name (sha1 x.bytes) = ap₂ (λ (k : ArchiveId) (m : ArchiveName). archive_path stanza k m (sha1 x.bytes)) k.0 k.1 in
      let held : f (stored_name stanza x) ≡ Some x.bytes = (h.archived (stored_name stanza x) x.bytes (file_of stanza x of)).1 (x, at, refl, refl) in
      subst (λ (o : Option Text). HasSum name o (sha1 x.bytes)) (sym (sym (ap f path) ∙ held)) (has_own name x.bytes)

  pub new_push : (f : Content) (s : Stanza) → HasStanza stanza f s → StoresNone stanza id name f → push_of s (archived_file id name bytes) ≡ Push (archived_file id name bytes) ∷ []
  new_push f s h lacks = push_chosen a (is_archived a s.archived) (λ e.
      let x = archived_as a s.archived e in lacks (sha1 x.0.bytes) (stored_as f s h x.0 x.1 x.2))

  -- where f stores it with no other sum, none is archived with another
  pub unlike : (f : Content) (s : Stanza) → HasStanza stanza f s → ((sum : Text) → Stores stanza id name f sum → sum ≡ sha1 bytes) → has_other (archived_file id name bytes) s.archived ≡ false
  unlike f s h only = no_other a s.archived (λ x at same. sym (only (sha1 x.bytes) (stored_as f s h x at same)))

  -- as after a push that succeeded
  pub pushed_unlike : (o : Option Content) (p : Pushed) → (p ≡ New → IfSome o (StoresNone stanza id name)) → (p ≡ Same → IfSome o (λ f. StoresOnly stanza id name f (sha1 bytes)))
      → (s : Stanza) → IsSome o → NowRepresents stanza (Some s) o → has_other (archived_file id name bytes) s.archived ≡ false
  pushed_unlike o New new same s some now =
      let f = known_as o some in
      let none = at_known (StoresNone stanza id name) o f.0 f.1 (new refl) in
      unlike f.0 s (now.represents f.0 f.1) (λ sum stores. absurd (none sum stores))
  pushed_unlike o Same new same s some now =
      let f = known_as o some in
      let only = at_known (λ f. StoresOnly stanza id name f (sha1 bytes)) o f.0 f.1 (same refl) in
      unlike f.0 s (now.represents f.0 f.1) only.only

  pub no_push : (f : Content) (s : Stanza) → HasStanza stanza f s → StoresSome stanza id name f → push_of s (archived_file id name bytes) ≡ []
  no_push f s h has =
      let v = stored_has name (f (archive_path stanza id name has.0)) has.0 has.1 in
      let x = held_archived stanza id name place f s h has.0 v.1.0 v.0 v.1.1 in
      let same : id_text id ⫽ wal_text name ≡ id_text x.0.id ⫽ wal_text x.0.name = ap₂ (λ (k : ArchiveId) (m : ArchiveName). id_text k ⫽ wal_text m) (sym x.2) (sym x.3) in
      none_chosen a (is_archived a s.archived) (archived_by a x.0 s.archived x.1 ((bytes_eq-Decides (id_text id ⫽ wal_text name) (id_text x.0.id ⫽ wal_text x.0.name)).1 same))

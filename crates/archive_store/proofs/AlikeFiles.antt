-- Contents that agree at a file's paths store it alike.
use Rattle.std.proofs.Common.{◌≡◌, Option, refl, ◌∙◌, sym, subst}
use Rattle.base_devices.specs.Content.{Content}
use Rattle.base_model.specs.declared.wal.ArchiveId.{ArchiveId}
use Rattle.base_model.specs.declared.wal.ArchiveName.{ArchiveName}
use Rattle.base_model.specs.Text.{Text}
use Rattle.archive_lookup.specs.Causes.{StoresBytes}
use Rattle.archive_store.specs.Pushes.{IsPathOf}
use Rattle.archive_lookup.specs.Stored.{archive_path, HasSum, Stores, StoresNone, StoresOnly}
use Rattle.archive_lookup.proofs.Owns.{stored_has}

module _ (stanza : Text) (id : ArchiveId) (name : ArchiveName) (f g : Content) (same : (n : Text) → IsPathOf stanza id name n → g n ≡ f n) where
  pub alike_stores : (sum : Text) → Stores stanza id name f sum → Stores stanza id name g sum
  alike_stores sum stores =
      let path = archive_path stanza id name sum in
      subst (λ (o : Option Text). HasSum name o sum) (sym (same path (sum, (stored_has name (f path) sum stores).0, refl))) stores

  back : (sum : Text) → Stores stanza id name g sum → Stores stanza id name f sum
  back sum stores =
      let path = archive_path stanza id name sum in
      subst (λ (o : Option Text). HasSum name o sum) (same path (sum, (stored_has name (g path) sum stores).0, refl)) stores

  pub alike_none : StoresNone stanza id name f → StoresNone stanza id name g
  alike_none none sum stores = none sum (back sum stores)

  pub alike_only : (sum : Text) → StoresOnly stanza id name f sum → StoresOnly stanza id name g sum
  alike_only sum only = record { stored = alike_stores sum only.stored; only = λ other stores. only.only other (back other stores) }

  pub alike_bytes : (sum bytes : Text) → StoresBytes stanza id name f sum bytes → StoresBytes stanza id name g sum bytes
  alike_bytes sum bytes stores =
      let path = archive_path stanza id name sum in
      record {
        only = alike_only sum stores.only;
        lies = same path (sum, (stored_has name (f path) sum stores.only.stored).0, refl) ∙ stores.lies;
      }

-- A new stanza, write by write.
use Rattle.std.proofs.Common.{◌≡◌, ◌≢◌, ◌⊎◌, ◌↔◌, ⊎_elim, [], Option, Some, None, refl, ◌∙◌, sym, arith, inl, inr}
use Rattle.std.proofs.lemmas.Grind.{common_steps}
use Rattle.std.proofs.lemmas.Slice.Eq.{bytes_eq-Decides}
use Rattle.base_devices.specs.Content.{Name, Value, Content, put}
use Rattle.base_devices.specs.Crash.{FirstOf, AllOf}
use Rattle.base_model.specs.declared.clusters.Cluster.{Cluster}
use Rattle.base_model.specs.Names.{copy_of, archive_info, backup_info}
use Rattle.base_model.specs.Text.{Text, In}
use Rattle.base_model.specs.InfoFiles.{IsArchiveText, IsBackupText}
use Rattle.base_model.specs.Repository.{Archived}
use Rattle.base_model.specs.Represents.{Represents, IsVacant, HasStanza, IsArchiveFile, stored_name}
use Rattle.base_model.specs.Steps.{new_stanza}
use Rattle.base_model.specs.Create.{first_archive, first_backup, first_archive_text, first_backup_text, pair_writes}
use Rattle.base_model.proofs.NameLemmas.{copy_apart, pairs_apart, archive_backup_copy_apart, archive_copy_backup_apart, copies_apart, file_backup_apart, file_backup_copy_apart, file_info_apart, file_info_copy_apart}
use Rattle.base_model.proofs.Frame.{alike_represents}

pub put_other : (name : Name) (v : Value) (f : Content) (q : Name) → q ≢ name → put name v f q ≡ f q
put_other name v f q apart = grind (arith, common_steps, bytes_eq-Decides name q)

pub put_same : (name : Name) (v : Value) (f : Content) → put name v f name ≡ v
put_same name v f = grind (arith, common_steps, bytes_eq-Decides name name)

-- an absent name is none of no files
none_stored : (stanza name bytes : Text) (found : Option Text) → found ≡ None → (found ≡ Some bytes) ↔ ((a : Archived) × In a [] × (name ≡ stored_name stanza a) × (bytes ≡ a.bytes))
none_stored stanza name bytes found none = (λ is. let e : ◌≡◌ {A = Option Text} None (Some bytes) = sym none ∙ is in cc, λ (a : (a : Archived) × In a [] × (name ≡ stored_name stanza a) × (bytes ≡ a.bytes)). absurd a.1)

none_of : (stanza : Text) (f : Content) (c : Cluster) → HasStanza stanza f (new_stanza c) → (name : Text) → IsArchiveFile stanza name → f name ≡ None
none_of stanza f c h name file = elim (f name) as (λ found. f name ≡ found → found ≡ None) [
  | None ↦ λ e. refl
  | Some bytes ↦ λ e. let a : (a : Archived) × In a [] × (name ≡ stored_name stanza a) × (bytes ≡ a.bytes) = (h.archived name bytes file).0 e in absurd a.1
] refl

module _ (stanza : Text) (c : Cluster) (archive_is : IsArchiveText (first_archive c) (first_archive_text c)) (backup_is : IsBackupText (first_backup c) (first_backup_text c)) where
  abbrev archive : Text
  archive = first_archive_text c

  abbrev backup : Text
  backup = first_backup_text c

  -- the backup pair's main member
  backup_saved : (f : Content) → IsVacant stanza f → IsVacant stanza (put (backup_info stanza) (Some backup) f)
  backup_saved f v = record {
    archive_pair = (
      put_other (backup_info stanza) (Some backup) f _ (pairs_apart stanza) ∙ v.archive_pair.0,
      put_other (backup_info stanza) (Some backup) f _ (archive_copy_backup_apart stanza) ∙ v.archive_pair.1,
    );
    backup_pair = inr (first_backup c, inl (backup, put_same (backup_info stanza) (Some backup) f, backup_is), refl);
    archived = λ name file. put_other (backup_info stanza) (Some backup) f _ (file_backup_apart stanza name file) ∙ v.archived name file;
  }

  -- its copy
  backup_copy_saved : (f : Content) → IsVacant stanza f → f (backup_info stanza) ≡ Some backup → IsVacant stanza (put (copy_of (backup_info stanza)) (Some backup) f)
  backup_copy_saved f v main = record {
    archive_pair = (
      put_other (copy_of (backup_info stanza)) (Some backup) f _ (archive_backup_copy_apart stanza) ∙ v.archive_pair.0,
      put_other (copy_of (backup_info stanza)) (Some backup) f _ (copies_apart stanza) ∙ v.archive_pair.1,
    );
    backup_pair = inr (first_backup c, inl (backup, put_other (copy_of (backup_info stanza)) (Some backup) f _ (copy_apart (backup_info stanza)) ∙ main, backup_is), refl);
    archived = λ name file. put_other (copy_of (backup_info stanza)) (Some backup) f _ (file_backup_copy_apart stanza name file) ∙ v.archived name file;
  }

  -- the archive pair's main member, with which the stanza is there
  archive_saved : (f : Content) → IsVacant stanza f → f (backup_info stanza) ≡ Some backup → HasStanza stanza (put (archive_info stanza) (Some archive) f) (new_stanza c)
  archive_saved f v main = record {
    archive_pair = inl (archive, put_same (archive_info stanza) (Some archive) f, archive_is);
    pending = None;
    is_pending = tt;
    named = λ a at. absurd at;
    backup_pair = inl (backup, put_other (archive_info stanza) (Some archive) f _ (λ e. pairs_apart stanza (sym e)) ∙ main, backup_is);
    manifests = λ b at. absurd at;
    archived = λ name bytes file. none_stored stanza name bytes (put (archive_info stanza) (Some archive) f name) (put_other (archive_info stanza) (Some archive) f _ (file_info_apart stanza name file) ∙ v.archived name file);
  }

  -- its copy
  archive_copy_saved : (f : Content) → HasStanza stanza f (new_stanza c) → f (archive_info stanza) ≡ Some archive → f (backup_info stanza) ≡ Some backup → HasStanza stanza (put (copy_of (archive_info stanza)) (Some archive) f) (new_stanza c)
  archive_copy_saved f h main other = record {
    archive_pair = inl (archive, put_other (copy_of (archive_info stanza)) (Some archive) f _ (copy_apart (archive_info stanza)) ∙ main, archive_is);
    pending = None;
    is_pending = tt;
    named = λ a at. absurd at;
    backup_pair = inl (backup, put_other (copy_of (archive_info stanza)) (Some archive) f _ (λ e. archive_copy_backup_apart stanza (sym e)) ∙ other, backup_is);
    manifests = λ b at. absurd at;
    archived = λ name bytes file. none_stored stanza name bytes (put (copy_of (archive_info stanza)) (Some archive) f name) (put_other (copy_of (archive_info stanza)) (Some archive) f _ (file_info_copy_apart stanza name file) ∙ none_of stanza f c h name file);
  }

  module _ (f : Content) (v : IsVacant stanza f) where
    abbrev f1 : Content
    f1 = put (backup_info stanza) (Some backup) f

    abbrev f2 : Content
    f2 = put (copy_of (backup_info stanza)) (Some backup) f1

    abbrev f3 : Content
    f3 = put (archive_info stanza) (Some archive) f2

    abbrev f4 : Content
    f4 = put (copy_of (archive_info stanza)) (Some archive) f3

    m1 : f1 (backup_info stanza) ≡ Some backup
    m1 = put_same (backup_info stanza) (Some backup) f

    m2 : f2 (backup_info stanza) ≡ Some backup
    m2 = put_other (copy_of (backup_info stanza)) (Some backup) f1 (backup_info stanza) (copy_apart (backup_info stanza)) ∙ m1

    m3 : f3 (backup_info stanza) ≡ Some backup
    m3 = put_other (archive_info stanza) (Some archive) f2 (backup_info stanza) (λ e. pairs_apart stanza (sym e)) ∙ m2

    s1 : IsVacant stanza f1
    s1 = backup_saved f v

    s2 : IsVacant stanza f2
    s2 = backup_copy_saved f1 s1 m1

    s3 : HasStanza stanza f3 (new_stanza c)
    s3 = archive_saved f2 s2 m2

    s4 : HasStanza stanza f4 (new_stanza c)
    s4 = archive_copy_saved f3 s3 (put_same (archive_info stanza) (Some archive) f2) m3

    -- none of the writes or some leave the stanza out or whole
    pub created_part : (g : Content) → FirstOf (pair_writes stanza c) f g → Represents stanza g None ⊎ Represents stanza g (Some (new_stanza c))
    created_part g w =
        ⊎_elim (λ a. inl (alike_represents stanza f g None a v))
        (⊎_elim (λ a. inl (alike_represents stanza f1 g None a s1))
        (⊎_elim (λ a. inl (alike_represents stanza f2 g None a s2))
        (⊎_elim (λ a. inr (alike_represents stanza f3 g (Some (new_stanza c)) a s3))
        (λ a. inr (alike_represents stanza f4 g (Some (new_stanza c)) a s4))))) w

    pub created_whole : (g : Content) → AllOf (pair_writes stanza c) f g → Represents stanza g (Some (new_stanza c))
    created_whole g w = alike_represents stanza f4 g (Some (new_stanza c)) w s4

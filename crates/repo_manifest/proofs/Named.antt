-- The sections of a manifest by their names.
use Rattle.std.proofs.Common.{◌≡◌, ◌≢◌, inl, inr, Bool, true, false, List, [], ◌∷◌, ◌++◌, map, Option, Some, None, bytes_eq, refl, sym, ap, ◌∙◌, subst}
use Rattle.std.specs.Prelude.{codes}
use Rattle.std.proofs.lemmas.Slice.Eq.{bytes_eq-Decides}
use Rattle.base_model.specs.declared.labels.Label.{Label}
use Rattle.base_model.specs.declared.wal.WalPart.{WalPart}
use Rattle.base_model.specs.Text.{Text, In}
use Rattle.base_model.specs.InfoText.{Section, has_keys}
use Rattle.base_model.specs.Fields.{Field, section}
use Rattle.base_model.specs.InfoFiles.{cluster_fields}
use Rattle.base_model.specs.ManifestText.{backup_fields, option_fields, file_field, folder_field, manifest_sections}
use Rattle.base_model.specs.Values.{FileEntry, Manifest}
use Rattle.repo_keys.specs.Agree.{IsKeysOf}
use Rattle.repo_info.proofs.ArchiveRules.{some_section}
use Rattle.repo_manifest.specs.Sections.{target_file, target_path, root_field}

apart : (a b : Text) → bytes_eq a b ≡ false → a ≡ b → ⊥
apart a b h e = let x : ◌≡◌ {A = Bool} false true = sym h ∙ (bytes_eq-Decides a b).1 e in cc x

-- the keys of the section `backup`, by what may be left out
abbrev pub fields_with : Option WalPart → Option Label → Manifest → List Field
fields_with w p m = backup_fields (record { label = m.label; kind = m.kind; prior = p; start = m.start; stop = m.stop; cluster = m.cluster; wal = w; choices = m.choices; files = m.files; folders = m.folders })

pub has_fields : (w : Option WalPart) (m : Manifest) → has_keys (fields_with w m.prior m) ≡ true
has_fields None m = refl
has_fields (Some w) m = refl

abbrev pub backup_section : Manifest → Section
backup_section m = record { name = codes "backup"; keys = backup_fields m }

abbrev pub db_section : Manifest → Section
db_section m = record { name = codes "backup:db"; keys = cluster_fields m.cluster }

abbrev pub option_section : Manifest → Section
option_section m = record { name = codes "backup:option"; keys = option_fields m }

abbrev pub folder_section : Manifest → Section
folder_section m = record { name = target_path; keys = root_field ∷ map folder_field m.folders }

abbrev pub last_two : Manifest → List FileEntry → List Section
last_two m files = section target_file (map file_field files) ++ folder_section m ∷ []

pub sections_are : (m : Manifest) → manifest_sections m ≡ backup_section m ∷ db_section m ∷ option_section m ∷ last_two m m.files
unfolding manifest_sections
sections_are m = ap (λ (ss : List Section). (((ss ++ (db_section m ∷ [])) ++ (option_section m ∷ [])) ++ section target_file (map file_field m.files)) ++ (folder_section m ∷ [])) (some_section (codes "backup") (backup_fields m) (has_fields m.wal m))

module _ (m : Manifest) where
  put_at : (n : Text) (ks : List Field) → IsKeysOf (backup_section m ∷ db_section m ∷ option_section m ∷ last_two m m.files) n ks → IsKeysOf (manifest_sections m) n ks
  put_at n ks h = subst (λ (ss : List Section). IsKeysOf ss n ks) (sym (sections_are m)) h

  pub backup_at : IsKeysOf (manifest_sections m) (codes "backup") (backup_fields m)
  backup_at = put_at (codes "backup") (backup_fields m) (inl (inl refl))

  pub db_at : IsKeysOf (manifest_sections m) (codes "backup:db") (cluster_fields m.cluster)
  db_at = put_at (codes "backup:db") (cluster_fields m.cluster) (inl (inr (inl refl)))

  pub option_at : IsKeysOf (manifest_sections m) (codes "backup:option") (option_fields m)
  option_at = put_at (codes "backup:option") (option_fields m) (inl (inr (inr (inl refl))))

  pub folders_at : IsKeysOf (manifest_sections m) target_path (root_field ∷ map folder_field m.folders)
  folders_at = put_at target_path (root_field ∷ map folder_field m.folders) (inl (inr (inr (inr (by m.files)))))
    where
      by : (files : List FileEntry) → In (folder_section m) (last_two m files)
      by [] = inl refl
      by (e ∷ es) = inr (inl refl)

  other : (a : Text) (s t : Section) → bytes_eq a t.name ≡ false → s ≡ t → s.name ≢ a
  other a s t off e named = apart a t.name off (sym named ∙ ap (λ (x : Section). x.name) e)

  pub files_at : IsKeysOf (manifest_sections m) target_file (map file_field m.files)
  files_at = put_at target_file (map file_field m.files) (by m.files)
    where
      by : (files : List FileEntry) → IsKeysOf (backup_section m ∷ db_section m ∷ option_section m ∷ last_two m files) target_file (map file_field files)
      by (e ∷ es) = inl (inr (inr (inr (inl refl))))
      by [] = inr (none, refl)
        where
          none : (s : Section) → In s (backup_section m ∷ db_section m ∷ option_section m ∷ folder_section m ∷ []) → s.name ≢ target_file
          none s (inl e) = other target_file s (backup_section m) refl e
          none s (inr (inl e)) = other target_file s (db_section m) refl e
          none s (inr (inr (inl e))) = other target_file s (option_section m) refl e
          none s (inr (inr (inr (inl e)))) = other target_file s (folder_section m) refl e
          none s (inr (inr (inr (inr i)))) = absurd i

-- A text whose sections state a manifest's parts has the sections of that manifest.
use Rattle.std.proofs.Common.{◌≡◌, inl, inr, true, List, [], ◌∷◌, map, sym, ap, subst}
use Rattle.std.specs.Prelude.{codes}
use Rattle.base_model.specs.Text.{Text, In}
use Rattle.base_model.specs.InfoText.{Section, IsSection, IsInfo, head_name, has_keys}
use Rattle.base_model.specs.Fields.{Field}
use Rattle.base_model.specs.InfoFiles.{cluster_fields}
use Rattle.base_model.specs.ManifestText.{backup_fields, option_fields, file_field, folder_field, manifest_sections, IsManifest}
use Rattle.base_model.specs.Values.{FileEntry, Manifest}
use Rattle.repo_keys.specs.Agree.{IsKeysOf}
use Rattle.repo_keys.proofs.Numbers.{all_in}
use Rattle.repo_keys.proofs.Sorted.{unique, fits, same_list}
use Rattle.repo_manifest.specs.Sections.{target_file, target_path, root_field}
use Rattle.repo_manifest.specs.Head.{manifest_names}
use Rattle.repo_manifest.proofs.Named.{backup_section, db_section, option_section, last_two, sections_are, backup_at, db_at, option_at, files_at, folders_at}
use Rattle.repo_manifest.proofs.ManifestRules.{manifest_is_info}

-- the sections state the parts of the manifest, and nothing else
pub record Shows (m : Manifest) (ss : List Section) : Type 0 where
  pub backup : IsKeysOf ss (codes "backup") (backup_fields m)
  pub db : IsKeysOf ss (codes "backup:db") (cluster_fields m.cluster)
  pub option : IsKeysOf ss (codes "backup:option") (option_fields m)
  pub files : IsKeysOf ss target_file (map file_field m.files)
  pub folders : IsKeysOf ss target_path (root_field ∷ map folder_field m.folders)
  pub names : (s : Section) → In s ss → In s.name manifest_names

no_keys : (ks : List Field) → ks ≡ [] → has_keys ks ≡ true → ⊥
no_keys [] e h = cc h
no_keys (k ∷ ks) e h = cc e

-- a section that one has, the other has
in_both : (vs ss : List Section) → IsInfo ss → (n : Text) (ks : List Field) → IsKeysOf vs n ks → IsKeysOf ss n ks → (z : Section) → In z ss → z.name ≡ n → In z vs
in_both vs ss info n ks at (inr none) z i named = absurd (none.0 z i named)
in_both vs ss info n ks (inl j) (inl i') z i named =
    let here : Section = record { name = n; keys = ks } in
    subst (λ (s : Section). In s vs) (sym (unique (λ (s : Section). s.name) head_name ss z here info.order i i' named)) j
in_both vs ss info n ks (inr none) (inl i') z i named =
    let here : Section = record { name = n; keys = ks } in
    absurd (no_keys ks none.1 (all_in IsSection ss here info.sections i').some)

all_both : (m : Manifest) (vs ss : List Section) → IsInfo ss → Shows m vs → Shows m ss → (z : Section) → In z ss → In z vs
all_both m vs ss info a b z i = by (b.names z i)
  where
    by : In z.name manifest_names → In z vs
    by (inl e) = in_both vs ss info (codes "backup") (backup_fields m) a.backup b.backup z i e
    by (inr (inl e)) = in_both vs ss info (codes "backup:db") (cluster_fields m.cluster) a.db b.db z i e
    by (inr (inr (inl e))) = in_both vs ss info (codes "backup:option") (option_fields m) a.option b.option z i e
    by (inr (inr (inr (inl e)))) = in_both vs ss info target_file (map file_field m.files) a.files b.files z i e
    by (inr (inr (inr (inr (inl e))))) = in_both vs ss info target_path (root_field ∷ map folder_field m.folders) a.folders b.folders z i e
    by (inr (inr (inr (inr (inr none))))) = absurd none

own_names : (m : Manifest) (files : List FileEntry) (s : Section) → In s (backup_section m ∷ db_section m ∷ option_section m ∷ last_two m files) → In s.name manifest_names
own_names m files s (inl e) = inl (ap (λ (x : Section). x.name) e)
own_names m files s (inr (inl e)) = inr (inl (ap (λ (x : Section). x.name) e))
own_names m files s (inr (inr (inl e))) = inr (inr (inl (ap (λ (x : Section). x.name) e)))
own_names m [] s (inr (inr (inr (inl e)))) = inr (inr (inr (inr (inl (ap (λ (x : Section). x.name) e)))))
own_names m [] s (inr (inr (inr (inr none)))) = absurd none
own_names m (f ∷ fs) s (inr (inr (inr (inl e)))) = inr (inr (inr (inl (ap (λ (x : Section). x.name) e))))
own_names m (f ∷ fs) s (inr (inr (inr (inr (inl e))))) = inr (inr (inr (inr (inl (ap (λ (x : Section). x.name) e)))))
own_names m (f ∷ fs) s (inr (inr (inr (inr (inr none))))) = absurd none

shows_own : (m : Manifest) → Shows m (manifest_sections m)
shows_own m = record {
  backup = backup_at m;
  db = db_at m;
  option = option_at m;
  files = files_at m;
  folders = folders_at m;
  names = λ s i. own_names m m.files s (subst (λ (ss : List Section). In s ss) (sections_are m) i);
}

pub known_names : (m : Manifest) (s : Section) → In s (manifest_sections m) → In s.name manifest_names
known_names m s i = (shows_own m).names s i

pub same_sections : (m : Manifest) (ss : List Section) → IsManifest m → IsInfo ss → Shows m ss → manifest_sections m ≡ ss
same_sections m ss rules info shows =
    let own = manifest_is_info m rules in
    let there = all_both m (manifest_sections m) ss info (shows_own m) shows in
    let back = all_both m ss (manifest_sections m) own shows (shows_own m) in
    same_list (λ (s : Section). s.name) head_name head_name (manifest_sections m) ss own.order info.order there
    (fits (λ (s : Section). s.name) head_name head_name ss (manifest_sections m) info.order own.order back)

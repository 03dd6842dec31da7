-- From the faults of its sections to those of a manifest.
use Rattle.std.proofs.Common.{◌≡◌, ◌≢◌, ⊎_elim, inl, inr, List, [], ◌∷◌, map, refl, sym, ap, ◌∙◌, subst}
use Rattle.std.proofs.lemmas.List.{append_cancel_left}
use Rattle.std.specs.Prelude.{codes}
use Rattle.serde_json.specs.Data.{object, no_members}
use Rattle.base_model.specs.Text.{Text, In}
use Rattle.base_model.specs.InfoText.{Section, IsInfo}
use Rattle.base_model.specs.Fields.{Field}
use Rattle.base_model.specs.ManifestText.{data_path, file_field, folder_field, manifest_sections, IsManifest}
use Rattle.base_model.specs.Values.{FileEntry, Manifest}
use Rattle.repo_keys.specs.Agree.{AgreeAt, KeysAgree}
use Rattle.repo_keys.specs.Agree.{IsKeysOf}
use Rattle.repo_keys.proofs.Numbers.{in_map, map_in}
use Rattle.repo_manifest.specs.Sections.{target_file, target_path, root_field, IsNoFile, IsNoFolder, IsUnplacedFile, IsUnplacedFolder}
use Rattle.repo_manifest.specs.Wrong.{At, IsWrongAt}
use Rattle.repo_manifest.specs.Tied.{IsOnPath, IsTied}
use Rattle.repo_manifest.specs.ManifestForm.{IsManifestForm}
use Rattle.repo_manifest.proofs.Alone.{file_alone, folder_alone}
use Rattle.repo_manifest.proofs.Agreements.{agree_keys}
use Rattle.repo_manifest.proofs.Named.{files_at, folders_at}
use Rattle.repo_manifest.proofs.ManifestRules.{manifest_is_info}

same_at : (ss : List Section) (n key : Text) → AgreeAt ss ss n key
same_at ss n key = record { there = λ d h. h; back = λ d h. h }

-- sections that are wrong at a key are those of no value
pub none_from : {V : Type 0} (IsOne : V → Type 0) (sections : V → List Section) (Tied : At → At → Type 0) (ss : List Section) (n key : Text) → IsWrongAt IsOne sections Tied ss n key → (v : V) → IsOne v → sections v ≢ ss
none_from IsOne sections Tied ss n key w v rules same =
    let agree = λ (m k : Text). subst (λ (xs : List Section). AgreeAt (sections v) xs m k) same (same_at (sections v) m k) in
    w.wrong v rules (λ p i. agree p.0 p.1) (agree n key)

pub form_of : (ss : List Section) (n key : Text) → IsWrongAt IsManifest manifest_sections IsTied ss n key → IsManifestForm ss n key
form_of ss n key w = record { none = none_from IsManifest manifest_sections IsTied ss n key w; wrong = inl w }

same_path : (p q : Text) → data_path p ≡ data_path q → p ≡ q
same_path p q e = append_cancel_left (codes "pg_data/") p q e

-- a key of a path is tied to one on the path
on_path : (n key p q : Text) → key ≡ data_path p → (other : Text) → IsOnPath p q → (a : At) → In a ((other, data_path q) ∷ []) → IsTied (n, key) a
on_path n key p q at other h a (inl e) = inl (p, q, at, ap (λ (x : At). x.1) e, h)
on_path n key p q at other h a (inr i) = absurd i

module _ (ss : List Section) (info : IsInfo ss) where
  module _ (ks : List Field) (of : IsKeysOf ss target_file ks) where
    -- what a manifest has at a file's key, where it has there what the text has
    file_keys : (m : Manifest) → IsManifest m → (key : Text) → AgreeAt (manifest_sections m) ss target_file key → KeysAgree (map file_field m.files) ks key
    file_keys m rules key agree = agree_keys (manifest_sections m) ss (manifest_is_info m rules) info target_file (map file_field m.files) ks (files_at m) of key agree

    pub wrong_file : (key : Text) → IsNoFile ks key → IsWrongAt IsManifest manifest_sections IsTied ss target_file key
    wrong_file key (d, i, none) = record {
      others = [];
      tied = λ p i. absurd i;
      wrong = λ m rules others agree.
          let (e, j, at) = map_in file_field m.files (key, d) ((file_keys m rules key agree).back d i) in
          none e (file_alone m.folders e (rules.files e j)) at;
    }

  module _ (ks : List Field) (of : IsKeysOf ss target_path ks) where
    folder_keys : (m : Manifest) → IsManifest m → (key : Text) → AgreeAt (manifest_sections m) ss target_path key → KeysAgree (root_field ∷ map folder_field m.folders) ks key
    folder_keys m rules key agree = agree_keys (manifest_sections m) ss (manifest_is_info m rules) info target_path (root_field ∷ map folder_field m.folders) ks (folders_at m) of key agree

    pub wrong_folder : (key : Text) → IsNoFolder ks key → IsWrongAt IsManifest manifest_sections IsTied ss target_path key
    wrong_folder key (inl (d, i, not_root, none)) = record {
      others = [];
      tied = λ p i. absurd i;
      wrong = λ m rules others agree.
          ⊎_elim
          (λ (e : (let k : Field = (key, d) in k) ≡ root_field). not_root e)
          (λ (j : In (key, d) (map folder_field m.folders)).
          let (p, k, at) = map_in folder_field m.folders (key, d) j in
          none p (folder_alone m.folders p (rules.folders p k)) at)
          ((folder_keys m rules key agree).back d i);
    }
    wrong_folder key (inr (named, none)) = record {
      others = [];
      tied = λ p i. absurd i;
      wrong = λ m rules others agree.
          let there : In (key, object no_members) (root_field ∷ map folder_field m.folders) = inl (ap (λ (k : Text). let f : Field = (k, object no_members) in f) named) in
          none (object no_members) ((folder_keys m rules key agree).there (object no_members) there);
    }

  -- the section states these folders
  module _ (fs : List Text) (of : IsKeysOf ss target_path (root_field ∷ map folder_field fs)) where
    -- a manifest has the folders that the text has
    folder_in : (m : Manifest) → IsManifest m → (p : Text) → AgreeAt (manifest_sections m) ss target_path (data_path p) → In p fs → In p m.folders
    folder_in m rules p agree i =
        ⊎_elim
        (λ (e : folder_field p ≡ root_field). absurd (not_root e))
        (λ (j : In (folder_field p) (map folder_field m.folders)).
        let (q, k, at) = map_in folder_field m.folders (folder_field p) j in
        subst (λ (x : Text). In x m.folders) (sym (same_path p q (ap (λ (f : Field). f.0) at))) k)
        ((folder_keys (root_field ∷ map folder_field fs) of m rules (data_path p) agree).back (object no_members) (inr (in_map folder_field fs p i)))
      where
        not_root : folder_field p ≡ root_field → ⊥
        not_root e = let x : data_path p ≡ codes "pg_data" = ap (λ (f : Field). f.0) e in cc x

    in_folder : (m : Manifest) → IsManifest m → (p : Text) → AgreeAt (manifest_sections m) ss target_path (data_path p) → In p m.folders → In p fs
    in_folder m rules p agree i =
        ⊎_elim
        (λ (e : folder_field p ≡ root_field). absurd (not_root e))
        (λ (j : In (folder_field p) (map folder_field fs)).
        let (q, k, at) = map_in folder_field fs (folder_field p) j in
        subst (λ (x : Text). In x fs) (sym (same_path p q (ap (λ (f : Field). f.0) at))) k)
        ((folder_keys (root_field ∷ map folder_field fs) of m rules (data_path p) agree).there (object no_members) (inr (in_map folder_field m.folders p i)))
      where
        not_root : folder_field p ≡ root_field → ⊥
        not_root e = let x : data_path p ≡ codes "pg_data" = ap (λ (f : Field). f.0) e in cc x

    pub lacking_folder : (n key : Text) → IsUnplacedFolder fs n key → IsWrongAt IsManifest manifest_sections IsTied ss n key
    lacking_folder n key (p, i, at, named, (prefix, last, is, lost)) = record {
      others = (target_path, data_path prefix) ∷ [];
      tied = on_path n key p prefix at target_path (inr (last, is));
      wrong = λ m rules others agree.
          let own = subst (λ (k : Text). AgreeAt (manifest_sections m) ss target_path k) at (subst (λ (s : Text). AgreeAt (manifest_sections m) ss s key) named agree) in
          let here = folder_in m rules p own i in
          lost (in_folder m rules prefix (others (target_path, data_path prefix) (inl refl)) ((rules.folders p here).placed prefix last is));
    }

    module _ (es : List FileEntry) (known : IsKeysOf ss target_file (map file_field es)) where
      -- a manifest has a file of the path of each file that the text has
      file_in : (m : Manifest) → IsManifest m → (e : FileEntry) → AgreeAt (manifest_sections m) ss target_file (data_path e.path) → In e es → (f : FileEntry) × In f m.files × (f.path ≡ e.path)
      file_in m rules e agree i =
          let j = (file_keys (map file_field es) known m rules (data_path e.path) agree).back (file_field e).1 (in_map file_field es e i) in
          let (f, k, at) = map_in file_field m.files (file_field e) j in
          (f, k, sym (same_path e.path f.path (ap (λ (x : Field). x.0) at)))

      pub lacking_file : (n key : Text) → IsUnplacedFile es fs n key → IsWrongAt IsManifest manifest_sections IsTied ss n key
      lacking_file n key (e, i, at, inl (named, (prefix, last, is, lost))) = record {
        others = (target_path, data_path prefix) ∷ [];
        tied = on_path n key e.path prefix at target_path (inr (last, is));
        wrong = λ m rules others agree.
            let own = subst (λ (k : Text). AgreeAt (manifest_sections m) ss target_file k) at (subst (λ (s : Text). AgreeAt (manifest_sections m) ss s key) named agree) in
            let (f, k, same) = file_in m rules e own i in
            lost (in_folder m rules prefix (others (target_path, data_path prefix) (inl refl)) ((rules.files f k).placed prefix last (same ∙ is)));
      }
      lacking_file n key (e, i, at, inr (named, j)) = record {
        others = (target_file, data_path e.path) ∷ [];
        tied = on_path n key e.path e.path at target_file (inl refl);
        wrong = λ m rules others agree.
            let own = subst (λ (k : Text). AgreeAt (manifest_sections m) ss target_path k) at (subst (λ (s : Text). AgreeAt (manifest_sections m) ss s key) named agree) in
            let (f, k, same) = file_in m rules e (others (target_file, data_path e.path) (inl refl)) i in
            rules.apart f.path (in_map (λ (x : FileEntry). x.path) m.files f k) (subst (λ (p : Text). In p m.folders) (sym same) (folder_in m rules e.path own j));
      }

pub form_at : (ss : List Section) (n own key : Text) → n ≡ own → IsWrongAt IsManifest manifest_sections IsTied ss own key → IsManifestForm ss n key
form_at ss n own key e w = form_of ss n key (subst (λ (s : Text). IsWrongAt IsManifest manifest_sections IsTied ss s key) (sym e) w)

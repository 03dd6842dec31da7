-- A field of a manifest is of one file or of one folder.
use Rattle.std.proofs.Common.{◌≡◌, ℕ, inl, inr, List, [], ◌∷◌, map, drop, Option, Some, None, codes, refl, sym, ap, ap₂, ◌∙◌}
use Rattle.std.specs.Prelude.{option_map, IfSome}
use Rattle.serde_json.specs.Data.{Data, string}
use Rattle.serde_json.specs.Find.{get}
use Rattle.base_text.specs.Sum.{sum_text}
use Rattle.base_text.proofs.Sums.{sum_text-injective}
use Rattle.base_model.specs.declared.labels.Label.{Label}
use Rattle.base_model.specs.declared.files.Bundled.{Bundled}
use Rattle.base_model.specs.Text.{Text, In}
use Rattle.base_model.specs.Fields.{Field, whole}
use Rattle.base_model.specs.InfoFiles.{IsLabel, label_value}
use Rattle.base_model.specs.ManifestText.{data_path, file_field, folder_field}
use Rattle.base_model.specs.Values.{FileEntry}
use Rattle.repo_keys.proofs.Scalars.{same_number, same_data}
use Rattle.repo_info.proofs.EntryParts.{same_label}
use Rattle.repo_manifest.specs.Alone.{IsFile}
use Rattle.repo_manifest.proofs.FileValues.{at_checksum, at_size, at_timestamp, at_reference, at_bni, at_bno}

pub same_labelled : (o p : Option Label) → IfSome o IsLabel → IfSome p IsLabel → option_map label_value o ≡ option_map label_value p → o ≡ p
same_labelled None None h g e = refl
same_labelled None (Some m) h g e = cc
same_labelled (Some l) None h g e = cc
same_labelled (Some l) (Some m) h g e = ap (λ (x : Label). Some x) (same_label l m h g (same_data (label_value l) (label_value m) e))

same_bundle : (o p : Option Bundled) → option_map (λ (b : Bundled). whole b.number) o ≡ option_map (λ (b : Bundled). whole b.number) p
    → option_map (λ (b : Bundled). whole b.at) o ≡ option_map (λ (b : Bundled). whole b.at) p → o ≡ p
same_bundle None None number at = refl
same_bundle None (Some c) number at = cc
same_bundle (Some b) None number at = cc
same_bundle (Some b) (Some c) number at =
    let bundle = same_number b.number c.number (same_data (whole b.number) (whole c.number) number) in
    let byte = same_number b.at c.at (same_data (whole b.at) (whole c.at) at) in
    let parts : ◌≡◌ {A = Bundled} (record { number = b.number; at = b.at }) (record { number = c.number; at = c.at }) = rw (bundle, byte) refl in
    ap (λ (x : Bundled). Some x) parts

-- what is after `pg_data/`
same_path : (p q : Text) → data_path p ≡ data_path q → p ≡ q
same_path p q e = ap (drop 8) e

same_sum_text : (s t : List ℕ) → ◌≡◌ {A = Option Data} (Some (string (sum_text s))) (Some (string (sum_text t))) → sum_text s ≡ sum_text t
same_sum_text s t e = cc

-- ---- files

module _ (e f : FileEntry) (h : IsFile e) (g : IsFile f) (same : file_field e ≡ file_field f) where
  at : (key : Text) → get key (file_field e).1 ≡ get key (file_field f).1
  at key = ap (λ (k : Field). get key k.1) same

  sum : e.sum ≡ f.sum
  sum = sum_text-injective e.sum f.sum h.sum g.sum (same_sum_text e.sum f.sum (sym (at_checksum e) ∙ at (codes "checksum") ∙ at_checksum f))

  size : e.size ≡ f.size
  size = same_number e.size f.size (same_data (whole e.size) (whole f.size) (sym (at_size e) ∙ at (codes "size") ∙ at_size f))

  time : e.time ≡ f.time
  time = same_number e.time f.time (same_data (whole e.time) (whole f.time) (sym (at_timestamp e) ∙ at (codes "timestamp") ∙ at_timestamp f))

  reference : e.reference ≡ f.reference
  reference = same_labelled e.reference f.reference h.reference g.reference (sym (at_reference e) ∙ at (codes "reference") ∙ at_reference f)

  bundle : e.bundle ≡ f.bundle
  bundle = same_bundle e.bundle f.bundle (sym (at_bni e) ∙ at (codes "bni") ∙ at_bni f) (sym (at_bno e) ∙ at (codes "bno") ∙ at_bno f)

  same_file : e ≡ f
  same_file =
      let path = same_path e.path f.path (ap (λ (k : Field). k.0) same) in
      let parts : ◌≡◌ {A = FileEntry}
      (record { path = e.path; size = e.size; time = e.time; sum = e.sum; reference = e.reference; bundle = e.bundle })
      (record { path = f.path; size = f.size; time = f.time; sum = f.sum; reference = f.reference; bundle = f.bundle }) = rw (path, size, time, sum, reference, bundle) refl in
      parts

pub same_files : (es fs : List FileEntry) → ((e : FileEntry) → In e es → IsFile e) → ((f : FileEntry) → In f fs → IsFile f) → map file_field es ≡ map file_field fs → es ≡ fs
same_files [] [] h g same = refl
same_files [] (f ∷ fs) h g same = cc
same_files (e ∷ es) [] h g same = cc
same_files (e ∷ es) (f ∷ fs) h g same =
    let head : file_field e ≡ file_field f = cc in
    let rest : map file_field es ≡ map file_field fs = cc in
    ap₂ (λ (x : FileEntry) (xs : List FileEntry). x ∷ xs) (same_file e f (h e (inl refl)) (g f (inl refl)) head) (same_files es fs (λ x i. h x (inr i)) (λ x i. g x (inr i)) rest)

-- ---- folders

pub same_folders : (ps qs : List Text) → map folder_field ps ≡ map folder_field qs → ps ≡ qs
same_folders [] [] same = refl
same_folders [] (q ∷ qs) same = cc
same_folders (p ∷ ps) [] same = cc
same_folders (p ∷ ps) (q ∷ qs) same =
    let head : folder_field p ≡ folder_field q = cc in
    let rest : map folder_field ps ≡ map folder_field qs = cc in
    ap₂ (λ (x : Text) (xs : List Text). x ∷ xs) (same_path p q (ap (λ (k : Field). k.0) head)) (same_folders ps qs rest)

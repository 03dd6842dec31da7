-- A text of a manifest is of one manifest.
use Rattle.std.proofs.Common.{◌≡◌, ℕ, zero, suc, Bool, List, [], ◌∷◌, map, drop, length, Option, Some, refl, sym, ap, ◌∙◌, arith}
use Rattle.std.specs.Prelude.{codes}
use Rattle.serde_json.specs.Data.{Data, boolean}
use Rattle.base_model.specs.declared.labels.Choices.{Choices}
use Rattle.base_model.specs.Text.{Text}
use Rattle.base_model.specs.InfoText.{Section}
use Rattle.base_model.specs.Fields.{Field, whole}
use Rattle.base_model.specs.InfoFiles.{label_value, label_kind, cluster_fields}
use Rattle.base_model.specs.ManifestText.{backup_fields, option_fields, file_field, folder_field, manifest_sections, IsManifest, IsManifestText}
use Rattle.base_model.specs.Values.{FileEntry, Manifest}
use Rattle.repo_ini.proofs.OneText.{one_sections}
use Rattle.repo_keys.proofs.Scalars.{same_number, same_data}
use Rattle.repo_info.proofs.EntryParts.{same_label}
use Rattle.repo_info.proofs.ClusterFields.{same_cluster}
use Rattle.repo_manifest.proofs.Alone.{file_alone}
use Rattle.repo_manifest.proofs.ManifestRules.{manifest_is_info}
use Rattle.repo_manifest.proofs.Named.{last_two, sections_are}
use Rattle.repo_manifest.proofs.Valued.{value_at, start_at, stop_at, label_at, from_at, to_at, prior_at, first_at, last_at, size_at}
use Rattle.repo_text_lemmas.proofs.Logs.{same_log}
use Rattle.repo_text_lemmas.proofs.Files.{same_labelled, same_files, same_folders}

-- ---- the sections

abbrev keys_at : ℕ → List Section → List Field
keys_at n [] = []
keys_at zero (s ∷ ss) = s.keys
keys_at (suc n) (s ∷ ss) = keys_at n ss

-- the section of the files is left out where there is none
last_keys : (a b : Manifest) (es fs : List FileEntry) → last_two a es ≡ last_two b fs → (map file_field es ≡ map file_field fs) × (map folder_field a.folders ≡ map folder_field b.folders)
last_keys a b [] [] e = (refl, ap (λ (ss : List Section). drop 1 (keys_at 0 ss)) e)
last_keys a b [] (f ∷ fs) e = let count : ◌≡◌ {A = ℕ} 1 2 = ap length e in absurd (omega (arith, count))
last_keys a b (e ∷ es) [] same = let count : ◌≡◌ {A = ℕ} 2 1 = ap length same in absurd (omega (arith, count))
last_keys a b (e ∷ es) (f ∷ fs) same = (ap (keys_at 0) same, ap (λ (ss : List Section). drop 1 (keys_at 1 ss)) same)

-- what two manifests of one text have in common
record Agree (a b : Manifest) : Type 0 where
  backup : backup_fields a ≡ backup_fields b
  cluster : cluster_fields a.cluster ≡ cluster_fields b.cluster
  options : option_fields a ≡ option_fields b
  files : map file_field a.files ≡ map file_field b.files
  folders : map folder_field a.folders ≡ map folder_field b.folders

agree_of : (a b : Manifest) → manifest_sections a ≡ manifest_sections b → Agree a b
agree_of a b same =
    let all = sym (sections_are a) ∙ same ∙ sections_are b in
    let last = last_keys a b a.files b.files (ap (drop 3) all) in
    record { backup = ap (keys_at 0) all; cluster = ap (keys_at 1) all; options = ap (keys_at 2) all; files = last.0; folders = last.1 }

-- ---- the section `backup`

module _ (a b : Manifest) (h : IsManifest a) (g : IsManifest b) (same : backup_fields a ≡ backup_fields b) where
  at : (key : Text) → value_at key (backup_fields a) ≡ value_at key (backup_fields b)
  at key = ap (value_at key) same

  label : a.label ≡ b.label
  label = same_label a.label b.label h.label g.label (same_data (label_value a.label) (label_value b.label) (sym (label_at a a.wal a.prior) ∙ at (codes "backup-label") ∙ label_at b b.wal b.prior))

  kind : a.kind ≡ b.kind
  kind = h.kind ∙ ap label_kind label ∙ sym g.kind

  prior : a.prior ≡ b.prior
  prior = same_labelled a.prior b.prior h.prior.1 g.prior.1 (sym (prior_at a a.wal a.prior) ∙ at (codes "backup-prior") ∙ prior_at b b.wal b.prior)

  start : a.start ≡ b.start
  start = same_number a.start b.start (same_data (whole a.start) (whole b.start) (sym (first_at a a.wal a.prior) ∙ at (codes "backup-timestamp-start") ∙ first_at b b.wal b.prior))

  stop : a.stop ≡ b.stop
  stop = same_number a.stop b.stop (same_data (whole a.stop) (whole b.stop) (sym (last_at a a.wal a.prior) ∙ at (codes "backup-timestamp-stop") ∙ last_at b b.wal b.prior))

  wal : a.wal ≡ b.wal
  wal = same_log a.wal b.wal h.wal g.wal
      (sym (start_at a a.wal a.prior) ∙ at (codes "backup-archive-start") ∙ start_at b b.wal b.prior)
      (sym (stop_at a a.wal a.prior) ∙ at (codes "backup-archive-stop") ∙ stop_at b b.wal b.prior)
      (sym (from_at a a.wal a.prior) ∙ at (codes "backup-lsn-start") ∙ from_at b b.wal b.prior)
      (sym (to_at a a.wal a.prior) ∙ at (codes "backup-lsn-stop") ∙ to_at b b.wal b.prior)
      (sym (size_at a a.wal a.prior) ∙ at (codes "backup-wal-segment-size") ∙ size_at b b.wal b.prior)

-- ---- the choices

same_truth : (x y : Bool) → ◌≡◌ {A = Option Data} (Some (boolean x)) (Some (boolean y)) → x ≡ y
same_truth x y e = cc

same_choices : (a b : Manifest) → option_fields a ≡ option_fields b → a.choices ≡ b.choices
same_choices a b same =
    let bundle = same_truth a.choices.bundle b.choices.bundle (ap (value_at (codes "option-bundle")) same) in
    let delta = same_truth a.choices.delta b.choices.delta (ap (value_at (codes "option-delta")) same) in
    let parts : ◌≡◌ {A = Choices} (record { bundle = a.choices.bundle; delta = a.choices.delta }) (record { bundle = b.choices.bundle; delta = b.choices.delta }) = rw (bundle, delta) refl in
    parts

-- ---- the whole

same_manifest : (a b : Manifest) → IsManifest a → IsManifest b → Agree a b → a ≡ b
same_manifest a b h g agree =
    let named = label a b h g agree.backup in
    let sort = kind a b h g agree.backup in
    let earlier = prior a b h g agree.backup in
    let first = start a b h g agree.backup in
    let last = stop a b h g agree.backup in
    let log = wal a b h g agree.backup in
    let cluster = same_cluster a.cluster b.cluster h.cluster g.cluster agree.cluster in
    let choices = same_choices a b agree.options in
    let files = same_files a.files b.files (λ e i. file_alone a.folders e (h.files e i)) (λ e i. file_alone b.folders e (g.files e i)) agree.files in
    let folders = same_folders a.folders b.folders agree.folders in
    let parts : ◌≡◌ {A = Manifest}
    (record { label = a.label; kind = a.kind; prior = a.prior; start = a.start; stop = a.stop; cluster = a.cluster; wal = a.wal; choices = a.choices; files = a.files; folders = a.folders })
    (record { label = b.label; kind = b.kind; prior = b.prior; start = b.start; stop = b.stop; cluster = b.cluster; wal = b.wal; choices = b.choices; files = b.files; folders = b.folders }) = rw (named, sort, earlier, first, last, cluster, log, choices, files, folders) refl in
    parts

pub one_manifest : (a b : Manifest) (t : Text) → IsManifestText a t → IsManifestText b t → a ≡ b
one_manifest a b t h g = same_manifest a b h.rules g.rules (agree_of a b (one_sections (manifest_sections a) (manifest_sections b) (manifest_is_info a h.rules) (manifest_is_info b g.rules) (sym h.spelled ∙ g.spelled)))

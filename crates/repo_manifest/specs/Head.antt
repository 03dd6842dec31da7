-- What the section `backup` states, and the manifest of this and the rest.
use Rattle.std.specs.Prelude.{◌≡◌, ◌≤◌, List, ◌∷◌, ◌++◌, [], IfSome, Option, Bool, false, is_some, codes}
use Rattle.serde_json.specs.Data.{boolean, string}
use Rattle.base_model.specs.declared.clusters.Cluster.{Cluster}
use Rattle.base_model.specs.declared.labels.Choices.{Choices}
use Rattle.base_model.specs.declared.labels.Label.{Label}
use Rattle.base_model.specs.declared.wal.WalPart.{WalPart}
use Rattle.base_model.specs.Text.{Text}
use Rattle.base_devices.specs.States.{last_second}
use Rattle.base_model.specs.Fields.{Field, whole}
use Rattle.base_model.specs.InfoText.{Section}
use Rattle.base_model.specs.InfoFiles.{IsLabel, kind_text, label_kind, label_value, segment_value}
use Rattle.base_model.specs.ManifestText.{backup_fields, lsn_text, manifest_sections, optional, HasItsPrior, IsManifest, IsWalPart}
use Rattle.base_model.specs.Values.{FileEntry, Manifest}
use Rattle.repo_keys.specs.Agree.{AgreeAt, IsKeysOf}
use Rattle.repo_manifest.specs.declared.head.Head.{Head}
use Rattle.repo_manifest.specs.Sections.{target_file, target_path}

-- the manifest of these parts
abbrev pub manifest_with : Head → Cluster → Choices → List FileEntry → List Text → Manifest
manifest_with h cluster choices files folders =
    record {
      label = h.label;
      kind = h.kind;
      prior = h.prior;
      start = h.start;
      stop = h.stop;
      cluster = cluster;
      wal = h.wal;
      choices = choices;
      files = files;
      folders = folders;
    }

-- The keys of the section `backup`, which say nothing about the rest of a manifest.
abbrev pub head_fields : Head → List Field
head_fields h = backup_fields (manifest_with h (record { id = 0; system = 0; version = 0; control = 0; catalog = 0 })
    (record { bundle = false; delta = false }) [] [])

-- the rules of a manifest on its section `backup`
pub record IsHead (h : Head) : Type 0 where
  pub label : IsLabel h.label
  pub kind : h.kind ≡ label_kind h.label
  pub prior : HasItsPrior h.kind h.prior × IfSome h.prior IsLabel
  pub start : h.start ≤ last_second
  pub stop : h.stop ≤ last_second
  pub wal : IfSome h.wal IsWalPart

-- the sections of a manifest
abbrev pub manifest_names : List Text
manifest_names = codes "backup" ∷ codes "backup:db" ∷ codes "backup:option" ∷ target_file ∷ target_path ∷ []

-- the choices, and whether a server was asked
abbrev pub choice_fields : Choices → Bool → List Field
choice_fields o online = (codes "option-bundle", boolean o.bundle) ∷ (codes "option-delta", boolean o.delta)
    ∷ (codes "option-online", boolean online) ∷ []

-- ---- the fields of the section `backup`, part by part

-- these fields, and after them the segments between which the log lies
abbrev pub then_span : List Field → Option WalPart → List Field
then_span ks wal = ks ++ optional (codes "backup-archive-start") (λ (w : WalPart). segment_value w.span.start) wal
    ++ optional (codes "backup-archive-stop") (λ (w : WalPart). segment_value w.span.stop) wal

-- the same with the positions between which it lies
abbrev pub then_positions : List Field → Option WalPart → List Field
then_positions ks wal = ks ++ optional (codes "backup-lsn-start") (λ (w : WalPart). string (lsn_text w.from.0)) wal
    ++ optional (codes "backup-lsn-stop") (λ (w : WalPart). string (lsn_text w.to.0)) wal

abbrev pub prior_field : Option Label → List Field
prior_field prior = optional (codes "backup-prior") label_value prior

-- the times and the kind
abbrev pub time_fields : Head → List Field
time_fields h = (codes "backup-timestamp-start", whole h.start) ∷ (codes "backup-timestamp-stop", whole h.stop)
    ∷ (codes "backup-type", string (kind_text h.kind)) ∷ []

abbrev pub size_field : Option WalPart → List Field
size_field wal = optional (codes "backup-wal-segment-size") (λ (w : WalPart). whole w.size.0) wal

-- ---- what sections state

-- the section `backup` is that of a manifest with this, whatever the rest of it
abbrev pub StatesHead : List Section → Head → Type 0
StatesHead ss h = (c : Cluster) (o : Choices) (fs : List FileEntry) (ps : List Text)
    → IsKeysOf ss (codes "backup") (backup_fields (manifest_with h c o fs ps))

-- the section `backup:option` states these choices
abbrev pub StatesChoices : List Section → Bool → Choices → Type 0
StatesChoices ss online o = IsKeysOf ss (codes "backup:option") (choice_fields o online)

-- a manifest with the first key of the log that the sections have was made with a server exactly where this says so
abbrev pub SaysOnline : List Section → Bool → Type 0
SaysOnline ss online = (m : Manifest) → IsManifest m
    → AgreeAt (manifest_sections m) ss (codes "backup") (codes "backup-archive-start")
    → is_some m.wal ≡ online

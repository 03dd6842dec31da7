-- What a backup is based on: the manifest of a listed backup, which the disk holds.
use Rattle.std.proofs.Common.{◌≡◌, ◌<◌, Bool, List, [], length, Option, Some, None, refl, sym, ◌∙◌, ap, subst}
use Rattle.std.specs.Prelude.{IfSome, unwrap_or}
use Rattle.std.specs.FinMap.{get}
use Rattle.base_devices.specs.Content.{Content}
use Rattle.base_devices.specs.Moments.{View}
use Rattle.base_model.specs.declared.labels.Label.{Label}
use Rattle.base_model.specs.ManifestText.{IsManifestText}
use Rattle.base_model.specs.Names.{manifest_name}
use Rattle.base_model.specs.Pair.{PairIs}
use Rattle.base_model.specs.Text.{In}
use Rattle.base_model.specs.Values.{BackupInfo, Entry, FileEntry, Manifest}
use Rattle.base_model.specs.Repository.{Backup, File, Stanza}
use Rattle.base_model.specs.Represents.{HasStanza, IsManifestOf, IsEntryOf}
use Rattle.backup_sink.proofs.Ways.{Law}
use Rattle.backup_plan.specs.declared.values.PlanSettings.{PlanSettings}
use Rattle.backup_plan.specs.Layout.{layout}
use Rattle.backup_record.specs.Entries.{prior_bytes}
use Rattle.backup_record.specs.Record.{PriorRead, HasPrior, IsListOf}
use Rattle.backup_record.proofs.Left.{OneManifest, pair_one}
use Rattle.backup_record.proofs.Made.{of_map}
use Rattle.backup_make.specs.declared.draft.Draft.{Draft}
use Rattle.backup_make.specs.Draft.{stanza_of, taken_in, old_in, list_in, IsDraft}
use Rattle.backup_lemmas.proofs.Prior.{files_before, old_files, held_bytes, AreTimed, timed}

-- The manifest of the listed backup of this label, which the disk holds: of its cluster, and its files may be left.
pub record IsBase (draft : Draft) (a : View) (l : Label) : Type 0 where
  pub entry : Entry
  pub listed : In entry (list_in draft).backups
  pub label : entry.label ≡ l
  pub db : entry.db ≡ draft.cluster.id
  pub manifest : Manifest
  pub read : IfSome a.now (λ f. PairIs IsManifestText f (manifest_name (stanza_of draft) l) manifest)
  pub old_is : old_in draft ≡ manifest.files
  -- so its files were planned
  pub settings : PlanSettings
  pub equal : List Bool
  pub same : length equal ≡ length (taken_in draft)
  pub choices : draft.plan.choices.items ≡ (layout settings (old_in draft) (taken_in draft) equal).choices
  pub delta : settings.delta ≡ draft.choices.delta
  -- a crash may leave what the disk holds
  pub law : Law a

-- a full backup leaves no file
abbrev pub BasedOn : Draft → View → Option Label → Type 0
BasedOn draft a None = old_in draft ≡ []
BasedOn draft a (Some l) = IsBase draft a l

pub full_based : (draft : Draft) (a : View) → old_in draft ≡ [] → draft.prior ≡ None → BasedOn draft a draft.prior
full_based draft a no_old no_prior = subst (λ (o : Option Label). BasedOn draft a o) (sym no_prior) no_old

-- a file that is left has the prior's time, unless digests are compared
abbrev pub IsTimedAs : Draft → Bool → Type 0
IsTimedAs draft delta = AreTimed delta (old_in draft) (taken_in draft) draft.plan.choices.items × ((l : Label) → draft.prior ≡ Some l → delta ≡ draft.choices.delta)

pub draft_timed : (draft : Draft) (is_draft : IsDraft draft) (a : View) → BasedOn draft a draft.prior → (delta : Bool) × IsTimedAs draft delta
draft_timed draft is_draft a based = by draft.prior refl based
  where
    by : (p : Option Label) → draft.prior ≡ p → BasedOn draft a p → (delta : Bool) × IsTimedAs draft delta
    by None is none = (
      is_draft.plan.settings.delta,
      (timed is_draft.plan.settings (old_in draft) (taken_in draft) is_draft.plan.equal is_draft.plan.same draft.plan.choices.items is_draft.plan.choices, λ l at. absurd (let e : ◌≡◌ {A = Option Label} None (Some l) = sym is ∙ at in cc)),
    )
    by (Some l) is base = (
      base.settings.delta,
      (timed base.settings (old_in draft) (taken_in draft) base.equal base.same draft.plan.choices.items base.choices, λ k at. base.delta),
    )

-- ---- the backup of that manifest

module _ (one_manifest : OneManifest) (draft : Draft) (is_draft : IsDraft draft) (a : View) (l : Label) (prior_is : draft.prior ≡ Some l) (base : IsBase draft a l)
    (f : Content) (is_f : a.now ≡ Some f) (s : Stanza) (list : IsListOf s (list_in draft)) (has : HasStanza (stanza_of draft) f s) where
  pub found : (p : Backup) × In p s.backups × (base.entry ≡ p.entry)
  found = of_map (λ (b : Backup). b.entry) base.entry s.backups (subst (λ (v : BackupInfo). In base.entry v.backups) list base.listed)

  abbrev pub based_on : Backup
  based_on = found.0

  pub represents_there : In based_on s.backups
  represents_there = found.1

  pub its_label : based_on.entry.label ≡ l
  its_label = sym (ap (λ (e : Entry). e.label) found.2) ∙ base.label

  pub its_db : based_on.entry.db ≡ draft.cluster.id
  its_db = sym (ap (λ (e : Entry). e.db) found.2) ∙ base.db

  abbrev pub its_manifest : PriorRead
  its_manifest = record { label = based_on.entry.label; manifest = base.manifest }

  pub has_prior : HasPrior (stanza_of draft) s (Some its_manifest) f
  has_prior = record {
    has = has;
    reads = (
        let x : IfSome (Some f) (λ g. PairIs IsManifestText g (manifest_name (stanza_of draft) l) base.manifest) = subst (λ (o : Option Content). IfSome o (λ g. PairIs IsManifestText g (manifest_name (stanza_of draft) l) base.manifest)) is_f base.read in
        subst (λ (k : Label). PairIs IsManifestText f (manifest_name (stanza_of draft) k) base.manifest) (sym its_label) x
        );
  }

  manifest_is : IsManifestOf (stanza_of draft) f s based_on base.manifest
  manifest_is =
      let x = has.manifests based_on represents_there in
      subst (λ (m : Manifest). IsManifestOf (stanza_of draft) f s based_on m) (pair_one one_manifest f (manifest_name (stanza_of draft) based_on.entry.label) x.0 base.manifest x.1 has_prior.reads) x.2

  -- it has each file that may be left
  pub old_file : (e : FileEntry) → In e (old_in draft) → (file : File) × (get based_on.files e.path ≡ Some file) × IsEntryOf (stanza_of draft) f based_on.entry.label file e
  old_file e at = manifest_is.files e (subst (λ (es : List FileEntry). In e es) base.old_is at)

  -- with the bytes that the disk holds
  pub old_held : (e : FileEntry) (at : In e (old_in draft)) → 0 < e.size → prior_bytes (files_before draft a.now) e.path ≡ (old_file e at).0.bytes
  old_held e at some =
      let own : unwrap_or draft.prior draft.label ≡ based_on.entry.label = ap (λ (o : Option Label). unwrap_or o draft.label) prior_is ∙ sym its_label in
      let x = old_file e at in
      ap (λ (o : Option Content). prior_bytes (old_files (stanza_of draft) (unwrap_or draft.prior draft.label) (old_in draft) o) e.path) is_f
      ∙ ap (λ (k : Label). prior_bytes (old_files (stanza_of draft) k (old_in draft) (Some f)) e.path) own
      ∙ held_bytes (stanza_of draft) based_on.entry.label f (old_in draft) is_draft.old_order e at some x.0 x.2

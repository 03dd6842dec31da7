-- What a backup is based on: the manifest that was read.
use Rattle.std.proofs.Common.{◌≡◌, ℕ, Bool, true, false, length, map, string_bytes, List, [], ◌∷◌, Option, Some, None, refl, sym, ◌∙◌, ap, subst, option_map, arith}
use Rattle.std.specs.Prelude.{IfSome, IsSomeAnd, option_and_then}
use Rattle.std.specs.Option.{option_or}
use Rattle.std.proofs.lemmas.List.{length-map}
use Rattle.base_devices.specs.Content.{Content}
use Rattle.base_devices.specs.Links.{LinkState}
use Rattle.base_devices.specs.Moments.{View}
use Rattle.base_model.specs.declared.clusters.Cluster.{Cluster}
use Rattle.base_model.specs.declared.labels.BackupKind.{BackupKind}
use Rattle.base_model.specs.declared.labels.BackupKind.TheVariants.{Full}
use Rattle.base_model.specs.declared.labels.Choices.{Choices}
use Rattle.base_model.specs.declared.labels.Label.{Label}
use Rattle.base_model.specs.Fields.{at_number}
use Rattle.base_model.specs.InfoFiles.{IsLabel, IsBackupInfo, IsBackupText}
use Rattle.base_model.specs.ManifestText.{IsManifest, IsManifestText}
use Rattle.base_model.specs.Names.{backup_info, manifest_name}
use Rattle.base_model.specs.Pair.{PairIs}
use Rattle.base_model.specs.Text.{Text, In}
use Rattle.base_model.specs.Values.{BackupInfo, Entry, FileEntry, Manifest}
use Rattle.backup_sink.proofs.Ways.{Law}
use Rattle.backup_plan.specs.declared.values.Listing.{Listing}
use Rattle.backup_plan.specs.Filter.{ListedNode, Takes}
use Rattle.backup_plan.specs.Views.{taken_of}
use Rattle.backup_record.proofs.Following.{label_of}
use Rattle.backup_record.proofs.Made.{in_map}
use Rattle.repo_stanza.specs.Judging.{Validates}
use Rattle.cmd_types.specs.Current.{HasValue}
use Rattle.backup_make.specs.declared.draft.Draft.{Draft}
use Rattle.backup_make.specs.Draft.{old_in, IsDraft}
use Rattle.cmd_backup_common.specs.Priors.{latest_full, may_base as may_be_based, last_of, prior_for}
use Rattle.cmd_backup_common.proofs.Priors.{prior_is}
use Rattle.backup_lemmas.proofs.Based.{BasedOn}
use Rattle.backup_lemmas.proofs.Begun.{BeginsFull, BeginsBackup}
use Rattle.cmd_backup_offline.specs.declared.order.OfflineOrder.{OfflineOrder}
use Rattle.cmd_backup_offline.specs.Basing.{base_in, base_label, old_files, ReadsBase}
use Rattle.cmd_backup_offline.specs.Drafting.{MayBase, IsOfflineBy, IsOfflineWith, IsOfflineOf, IsDraftedBy}
use Rattle.cmd_backup_offline.specs.Equal.{AreMarked}
use Rattle.cmd_backup_offline.specs.Making.{BeginsFrom}

-- ---- a full one is based on none

none_last : (cluster full : ℕ) (es : List Entry) → last_of (may_be_based Full cluster full) es ≡ None
none_last cluster full [] = refl
none_last cluster full (e ∷ es) = ap (λ (o : Option Entry). option_or o None) (none_last cluster full es)

pub no_base : (list : BackupInfo) → base_label Full list ≡ None
no_base list = by (at_number list.current list.history)
  where
    by : (o : Option Cluster) → option_map (λ (e : Entry). e.label) (option_and_then (λ (c : Cluster). prior_for Full c.id list.backups) o) ≡ None
    by None = refl
    by (Some c) = ap (λ (p : Option Entry). option_map (λ (e : Entry). e.label) p) (none_last c.id (latest_full list.backups) list.backups)

-- ---- what one is based on

-- a draft's label keeps the rules
pub draft_label : (d : Draft) → IsDraft d → IsLabel d.label
draft_label d is = (is.follows 0 (omega arith)).label

-- of the list's current cluster
pub base_is : (kind : BackupKind) (list : BackupInfo) (c : Cluster) → at_number list.current list.history ≡ Some c → base_in kind list ≡ prior_for kind c.id list.backups
base_is kind list c is = ap (λ (o : Option Cluster). option_and_then (λ (d : Cluster). prior_for kind d.id list.backups) o) is

-- the manifest that was read, where there is one
some_read : (m : Option Manifest) (P : Manifest → Type 0) → IsSomeAnd m P → (x : Manifest) × (m ≡ Some x) × P x
some_read None P h = absurd h
some_read (Some x) P h = (x, refl, h)

-- its label keeps the rules
pub base_rules : (kind : BackupKind) (list : BackupInfo) → IsBackupInfo list → (c : Cluster) → at_number list.current list.history ≡ Some c → IfSome (option_map (λ (e : Entry). e.label) (prior_for kind c.id list.backups)) IsLabel
base_rules kind list rules c is = by (prior_for kind c.id list.backups) refl
  where
    by : (o : Option Entry) → prior_for kind c.id list.backups ≡ o → IfSome (option_map (λ (e : Entry). e.label) o) IsLabel
    by None none = tt
    by (Some e) at = label_of _ list.backups e.label rules.backups (in_map (λ (x : Entry). x.label) e list.backups (prior_is kind c.id list.backups e at).listed)

-- its files may be those of a prior backup
pub may_base : (stanza : Text) (now : Option Content) (base : Option Entry) (m : Option Manifest) → ReadsBase stanza now (option_map (λ (e : Entry). e.label) base) m → MayBase base (old_files m)
may_base stanza now None m is = subst (λ (o : Option Manifest). MayBase None (old_files o)) (sym is) (record { order = refl; rules = ([], λ e at. absurd at); none = λ none. refl })
may_base stanza now (Some e) m is =
    let x = some_read m (λ x. IsManifest x × IfSome now (λ f. PairIs IsManifestText f (manifest_name stanza e.label) x)) is in
    subst (λ (o : Option Manifest). MayBase (Some e) (old_files o)) (sym x.1) (record {
      order = x.2.0.file_order;
      rules = (x.0.folders, x.2.0.files);
      none = λ none. absurd (let k : ◌≡◌ {A = Option Entry} (Some e) None = none in cc);
    })

module _ (online : Bool) (stanza : Text) (o : OfflineOrder) (seen : List ListedNode) (list : BackupInfo) (old : List FileEntry) (second : ℕ) (d : Draft) (later : IsOfflineOf online stanza o seen list old second d) (b : View) (law : Law b)
    (from : BeginsFrom stanza o b.now list old) where
  base_at : (e : Entry) → base_in o.kind list ≡ Some e → prior_for o.kind d.cluster.id list.backups ≡ Some e
  base_at e is = sym (base_is o.kind list d.cluster later.current) ∙ is

  based_by : (base : Option Entry) → base_in o.kind list ≡ base → ReadsBase stanza b.now (option_map (λ (e : Entry). e.label) base) from.base → BasedOn d b (option_map (λ (e : Entry). e.label) base)
  based_by None is none = later.old_is ∙ from.old_is ∙ ap old_files none
  based_by (Some e) is read =
      let x = some_read from.base (λ x. IsManifest x × IfSome b.now (λ f. PairIs IsManifestText f (manifest_name stanza e.label) x)) read in
      let model = prior_is o.kind d.cluster.id list.backups e (base_at e is) in
      record {
        entry = e;
        listed = subst (λ (v : BackupInfo). In e v.backups) (sym later.list_is) model.listed;
        label = refl;
        db = model.db;
        manifest = x.0;
        read = subst (λ (s : Text). IfSome b.now (λ f. PairIs IsManifestText f (manifest_name s e.label) x.0)) (sym later.stanza_is) x.2.1;
        old_is = later.old_is ∙ from.old_is ∙ ap old_files x.1;
        settings = o.settings;
        equal = later.equal;
        same = later.same;
        choices = later.planned;
        delta = sym (ap (λ (k : Choices). k.delta) later.choices);
        law = law;
      }

  pub based_on_it : BasedOn d b d.prior
  based_on_it = subst (λ (p : Option Label). BasedOn d b p) (sym later.prior) (based_by (base_in o.kind list) refl from.reads)

  -- what the backup begins from
  pub begins_later : IsDraft d → BeginsBackup d b
  begins_later is_draft = record {
    is_draft = is_draft;
    based = based_on_it;
    archive = from.archive;
    backup = from.backup;
    archive_read = subst (λ (s : Text). IfSome b.now (λ f. HasValue s f from.archive)) (sym later.stanza_is) from.archive_read;
    backup_read = subst (λ (s : Text). IfSome b.now (λ f. PairIs IsBackupText f (backup_info s) from.backup)) (sym later.stanza_is) from.backup_read;
    settles = subst (λ (w : BackupInfo). Validates from.archive from.backup w) (sym later.list_is) from.settles;
  }

  -- without a prior it is that of a full one
  pub begins_full : IsDraft d → d.prior ≡ None → BeginsFull d b.now
  begins_full is_draft none =
      let x = begins_later is_draft in
      record {
        is_draft = is_draft;
        no_old = subst (λ (p : Option Label). BasedOn d b p) none based_on_it;
        no_prior = none;
        archive = x.archive;
        backup = x.backup;
        archive_read = x.archive_read;
        backup_read = x.backup_read;
        settles = x.settles;
      }

-- ---- the draft

-- it is of each listing that shows these files and folders
pub offline_with : (stanza : Text) (o : OfflineOrder) (list : BackupInfo) (old : List FileEntry) (second : ℕ) (equal : List Bool) (listing : Listing) (d : Draft) → IsOfflineBy stanza o list old second equal listing d → length equal ≡ length listing.files.items
    → IsOfflineWith stanza o (map taken_of listing.files.items) (map string_bytes listing.folders.items) list old second d
offline_with stanza o list old second equal listing d by same online seen takes = record {
  stanza_is = by.stanza_is;
  label = by.label;
  start = by.start;
  prior = by.prior;
  old_is = by.old_is;
  takes = subst (λ (l : Listing). Takes online seen (map taken_of l.files.items) (map string_bytes l.folders.items)) (sym by.listing_is) takes;
  list_is = by.list_is;
  next = by.next;
  current = by.current;
  choices = by.choices;
  equal = equal;
  same = same ∙ sym (length-map listing.files.items taken_of) ∙ ap (λ (l : Listing). length (map taken_of l.files.items)) (sym by.listing_is);
  planned = by.planned;
}

-- of a stopped server's folder, by the marks that links reported
pub drafted_by : (stanza : Text) (o : OfflineOrder) (seen : List ListedNode) (list : BackupInfo) (old : List FileEntry) (second : ℕ) (links : List LinkState) (equal : List Bool) (listing : Listing) (d : Draft) → IsOfflineBy stanza o list old second equal listing d
    → Takes false seen (map taken_of listing.files.items) (map string_bytes listing.folders.items) → length equal ≡ length listing.files.items → (o.settings.delta ≡ true → AreMarked links old (map taken_of listing.files.items) equal)
    → IsDraftedBy stanza o seen list old second links d
drafted_by stanza o seen list old second links equal listing d by takes same marked =
    let later = offline_with stanza o list old second equal listing d by same false seen takes in
    record {
      later = later;
      planned = record {
        equal = equal;
        same = same ∙ sym (length-map listing.files.items taken_of) ∙ ap (λ (l : Listing). length (map taken_of l.files.items)) (sym by.listing_is);
        marked = λ delta. subst (λ (l : Listing). AreMarked links (old_in d) (map taken_of l.files.items) equal) (sym by.listing_is)
            (subst (λ (es : List FileEntry). AreMarked links es (map taken_of listing.files.items) equal) (sym by.old_is) (marked delta));
        planned = by.planned;
      };
    }

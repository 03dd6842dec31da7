-- The bytes of a backup's files lie at their places, unless they are an earlier backup's.
use Rattle.std.proofs.Common.{◌≡◌, ◌<◌, ◌∙◌, ℕ, true, List, length, map, take, Option, None, Some, refl, sym, ap, subst, arith, slice_get}
use Rattle.std.specs.Prelude.{IsSome, IsSomeAnd}
use Rattle.std.specs.FinMap.{get}
use Rattle.base_devices.specs.Content.{Name, Content}
use Rattle.base_devices.specs.Links.{LinkState}
use Rattle.base_devices.specs.Moments.{View}
use Rattle.base_model.specs.declared.labels.Label.{Label}
use Rattle.base_model.specs.Place.{place, LiesAt}
use Rattle.base_model.specs.Repository.{File}
use Rattle.base_model.specs.Represents.{IsEntryOf}
use Rattle.base_model.specs.Text.{Text, Map, In}
use Rattle.base_model.specs.Values.{FileEntry, Manifest}
use Rattle.worker_protocol.specs.PartSinkState.{Done, JobItems}
use Rattle.backup_sink.specs.Placed.{held_sum, IsPlaced}
use Rattle.backup_plan.specs.Layout.{Layout, layout}
use Rattle.backup_record.specs.Entries.{BackupRun, entries, file_of}
use Rattle.backup_record.specs.Item.{IsItem}
use Rattle.backup_record.specs.Rows.{IsRow}
use Rattle.backup_record.proofs.Made.{in_map, of_map}
use Rattle.backup_record.proofs.Maps.{get_of}
use Rattle.backup_record.proofs.Rows.{all_rows, rows_entries}
use Rattle.backup_make.specs.declared.draft.Draft.{Draft}
use Rattle.backup_make.specs.Draft.{stanza_of, taken_in, old_in, jobs_in, went_with, IsDraft}
use Rattle.backup_make.specs.Made.{Makes}
use Rattle.backup_make.proofs.Came.{counts, kept_count}
use Rattle.backup_make.proofs.Completes.{are_named}
use Rattle.backup_make.proofs.Drafted.{reads}
use Rattle.backup_lemmas.proofs.Prior.{files_before}
use Rattle.backup_lemmas.proofs.Reading.{rows_of, full_backup, files_sorted, have}

module _ (draft : Draft) (is_draft : IsDraft draft) (links : List LinkState) (b d : View) (makes : Makes draft links true b d) (known : IsSome b.now) (g : Content) (placed : IsPlaced makes.names makes.kept g) where
  abbrev w : BackupRun
  w = went_with draft makes.ends

  abbrev l : Layout
  l = layout is_draft.plan.settings (old_in draft) (taken_in draft) is_draft.plan.equal

  abbrev before : Map File
  before = files_before draft b.now

  abbrev rows : List (FileEntry × Text)
  rows = rows_of draft b.now makes.ends makes.kept

  -- as many bytes are held of an item as are known
  all_counts : (j i : ℕ) (k : JobItems) (x : Done) (bytes : Text) → slice_get makes.kept j ≡ Some k → slice_get k.done i ≡ Some x → x.held.known ≡ Some bytes → x.held.count ≡ length bytes
  all_counts = counts (jobs_in draft) links makes.kept (reads draft is_draft) (kept_count (jobs_in draft) makes.kept makes.ends makes.are makes.come) makes.received

  -- what was received of an item lies where its entry says
  item_lies : (e : FileEntry) (bytes : Text) → 0 < e.size → IsItem (stanza_of draft) draft.label makes.names makes.kept e bytes → LiesAt g (place (stanza_of draft) draft.label e) bytes
  item_lies e bytes some i =
      let r = makes.got known i.job i.item i.of i.done e.size i.sum i.of_is i.done_is i.end in
      let same : bytes ≡ r.0 = (let y : ◌≡◌ {A = Option Text} (Some bytes) (Some r.0) = sym i.known ∙ r.1.known in cc) in
      let size : e.size ≡ length bytes = r.1.number ∙ ap (λ (t : Text). length t) (sym same) in
      let count : i.done.held.count ≡ length bytes = all_counts i.job i.item i.of i.done bytes i.of_is i.done_is i.known in
      let p = placed.placed i.job i.item i.name i.of i.done i.name_is i.of_is i.done_is (omega (arith, some, size, count)) in
      let at : LiesAt g (i.name, held_sum (take i.item i.of.done)) bytes = (subst (λ (o : Option Text). IsSomeAnd o (λ t. LiesAt g (i.name, held_sum (take i.item i.of.done)) t × (length t ≡ i.done.held.count))) i.known p).0 in
      subst (λ (q : Text × ℕ). LiesAt g q bytes) (sym (i.at some)) at

  row_lies : (r : FileEntry × Text) → In r rows → r.0.reference ≡ None → IsRow (stanza_of draft) draft.label makes.names w before makes.kept r.0 r.1 → (file : File) × (get (full_backup draft links true b d makes).files r.0.path ≡ Some file) × IsEntryOf (stanza_of draft) g draft.label file r.0
  row_lies r at own row = (
    record { bytes = r.1; time = r.0.time },
    get_of (map file_of rows) r.0.path (record { bytes = r.1; time = r.0.time }) (files_sorted draft is_draft None tt links true b d makes) (in_map file_of r rows at),
    record { size = row.size own; time = refl; sum = row.sum own; stored = λ some. item_lies r.0 r.1 some (row.received own some) },
  )

  entry_lies : (e : FileEntry) → In e makes.manifest.files → e.reference ≡ None → (file : File) × (get (full_backup draft links true b d makes).files e.path ≡ Some file) × IsEntryOf (stanza_of draft) g draft.label file e
  entry_lies e at own =
      let files_are : makes.manifest.files ≡ map (λ (r : FileEntry × Text). r.0) rows =
      ap (λ (m : Manifest). m.files) makes.manifest_is ∙ sym (rows_entries w before makes.kept (taken_in draft) draft.plan.choices.items) in
      let r = of_map (λ (r : FileEntry × Text). r.0) e rows (subst (λ (es : List FileEntry). In e es) files_are at) in
      let each = all_rows (stanza_of draft) draft.label makes.names w before makes.kept l makes.are (makes.got known) (are_named draft is_draft None links true b d makes) (taken_in draft) draft.plan.choices.items (have draft is_draft None tt links true b d makes) in
      let x = row_lies r.0 r.1 (ap (λ (y : FileEntry). y.reference) (sym r.2) ∙ own) (each r.0 r.1) in
      subst (λ (y : FileEntry). (file : File) × (get (full_backup draft links true b d makes).files y.path ≡ Some file) × IsEntryOf (stanza_of draft) g draft.label file y) (sym r.2) x

  pub lies_there : (stanza : Text) → stanza_of draft ≡ stanza → (label : Label) → label ≡ draft.label → (e : FileEntry) → In e makes.manifest.files → e.reference ≡ None
      → (file : File) × (get (full_backup draft links true b d makes).files e.path ≡ Some file) × IsEntryOf stanza g label file e
  lies_there stanza stanza_is label label_is e at own =
      let x = entry_lies e at own in
      (x.0, x.1, subst (λ (s : Text). IsEntryOf s g label x.0 e) stanza_is (subst (λ (k : Label). IsEntryOf (stanza_of draft) g k x.0 e) (sym label_is) x.2))

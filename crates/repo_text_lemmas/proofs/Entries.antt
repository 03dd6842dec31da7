-- A field of `backup.info` is of one listed backup.
use Rattle.std.proofs.Common.{◌≡◌, ℕ, List, [], ◌∷◌, ◌++◌, map, Option, Some, None, refl, sym, ap, ap₂, ◌∙◌}
use Rattle.std.specs.Prelude.{codes, IfSome}
use Rattle.serde_json.specs.Data.{Data, array, Items}
use Rattle.serde_json.specs.Find.{get}
use Rattle.base_model.specs.declared.wal.Segment.{Segment}
use Rattle.base_model.specs.declared.wal.Span.{Span}
use Rattle.base_model.specs.Names.{segment_text}
use Rattle.base_model.specs.Fields.{Field, whole, items_from, list_of, or_null}
use Rattle.base_model.specs.InfoFiles.{IsSegment, label_value, segment_value, label_kind, entry_field, AreListed}
use Rattle.base_model.specs.Values.{Entry}
use Rattle.repo_keys.proofs.Scalars.{same_number, same_data}
use Rattle.repo_names.proofs.LabelTexts.{label_text-injective}
use Rattle.repo_info.specs.Entries.{IsEntry}
use Rattle.repo_info.proofs.EntryParts.{same_segment, same_labels, first_of, last_of, first_rules, last_rules, first_value, last_value}
use Rattle.repo_info.proofs.ListedKeys.{entry_listed, prior_of_field}

-- ---- the span

same_end : (o p : Option Segment) → IfSome o IsSegment → IfSome p IsSegment → or_null segment_value o ≡ or_null segment_value p → o ≡ p
same_end None None h g e = refl
same_end None (Some t) h g e = cc
same_end (Some s) None h g e = cc
same_end (Some s) (Some t) h g e = ap (λ (x : Segment). Some x) (same_segment s t h g (let text : segment_text s ≡ segment_text t = cc in text))

same_ends : (o p : Option Span) → first_of o ≡ first_of p → last_of o ≡ last_of p → o ≡ p
same_ends None None start stop = refl
same_ends None (Some t) start stop = cc
same_ends (Some s) None start stop = cc
same_ends (Some s) (Some t) start stop =
    let first : s.start ≡ t.start = cc in
    let last : s.stop ≡ t.stop = cc in
    let parts : ◌≡◌ {A = Span} (record { start = s.start; stop = s.stop }) (record { start = t.start; stop = t.stop }) = rw (first, last) refl in
    ap (λ (x : Span). Some x) parts

abbrev HasSegments : Option Span → Type 0
HasSegments o = IfSome o (λ s. IsSegment s.start × IsSegment s.stop)

same_span : (o p : Option Span) → HasSegments o → HasSegments p → or_null (λ (s : Span). segment_value s.start) o ≡ or_null (λ (s : Span). segment_value s.start) p
    → or_null (λ (s : Span). segment_value s.stop) o ≡ or_null (λ (s : Span). segment_value s.stop) p → o ≡ p
same_span o p h g start stop = same_ends o p
    (same_end (first_of o) (first_of p) (first_rules o h) (first_rules p g) (sym (first_value o) ∙ start ∙ first_value p))
    (same_end (last_of o) (last_of p) (last_rules o h) (last_rules p g) (sym (last_value o) ∙ stop ∙ last_value p))

-- ---- the references

same_array : (xs ys : Items) → ◌≡◌ {A = Data} (array xs) (array ys) → xs ≡ ys
same_array xs ys e = cc

same_items : (xs ys : List Data) → items_from xs ≡ items_from ys → xs ≡ ys
same_items [] [] e = refl
same_items [] (y ∷ ys) e = cc
same_items (x ∷ xs) [] e = cc
same_items (x ∷ xs) (y ∷ ys) e =
    let head : x ≡ y = cc in
    let rest : items_from xs ≡ items_from ys = cc in
    ap₂ (λ (z : Data) (zs : List Data). z ∷ zs) head (same_items xs ys rest)

-- ---- one backup

module _ (e f : Entry) (h : IsEntry e) (g : IsEntry f) (same : entry_field e ≡ entry_field f) where
  label : e.label ≡ f.label
  label = label_text-injective e.label f.label h.labels.label g.labels.label (ap (λ (k : Field). k.0) same)

  kind : e.kind ≡ f.kind
  kind = h.kind ∙ ap label_kind label ∙ sym g.kind

  references : e.references ≡ f.references
  references =
      let value = same_data (list_of (map label_value e.references)) (list_of (map label_value f.references)) (ap (λ (k : Field). get (codes "backup-reference") k.1) same) in
      let items = same_array (items_from (map label_value e.references)) (items_from (map label_value f.references)) value in
      same_labels e.references f.references h.labels.references g.labels.references (same_items (map label_value e.references) (map label_value f.references) items)

  span : e.span ≡ f.span
  span =
      let first : Entry → Data = λ x. or_null (λ (s : Span). segment_value s.start) x.span in
      let last : Entry → Data = λ x. or_null (λ (s : Span). segment_value s.stop) x.span in
      same_span e.span f.span h.span g.span
      (same_data (first e) (first f) (ap (λ (k : Field). get (codes "backup-archive-start") k.1) same))
      (same_data (last e) (last f) (ap (λ (k : Field). get (codes "backup-archive-stop") k.1) same))

  db : e.db ≡ f.db
  db = same_number e.db f.db (same_data (whole e.db) (whole f.db) (ap (λ (k : Field). get (codes "db-id") k.1) same))

  start : e.start ≡ f.start
  start = same_number e.start f.start (same_data (whole e.start) (whole f.start) (ap (λ (k : Field). get (codes "backup-timestamp-start") k.1) same))

  stop : e.stop ≡ f.stop
  stop = same_number e.stop f.stop (same_data (whole e.stop) (whole f.stop) (ap (λ (k : Field). get (codes "backup-timestamp-stop") k.1) same))

  size : e.size ≡ f.size
  size = same_number e.size f.size (same_data (whole e.size) (whole f.size) (ap (λ (k : Field). get (codes "backup-info-size") k.1) same))

  stored : e.stored ≡ f.stored
  stored = same_number e.stored f.stored (same_data (whole e.stored) (whole f.stored) (ap (λ (k : Field). get (codes "backup-info-repo-size-delta") k.1) same))

  pub same_entry : e ≡ f
  same_entry =
      let prior = prior_of_field e f h g same in
      let parts : ◌≡◌ {A = Entry}
      (record { label = e.label; kind = e.kind; prior = e.prior; references = e.references; db = e.db; span = e.span; start = e.start; stop = e.stop; size = e.size; stored = e.stored })
      (record { label = f.label; kind = f.kind; prior = f.prior; references = f.references; db = f.db; span = f.span; start = f.start; stop = f.stop; size = f.size; stored = f.stored }) = rw (label, kind, prior, references, db, span, start, stop, size, stored) refl in
      parts

-- ---- all of them

pub same_entries : (n m : ℕ) (before following es fs : List Entry) → AreListed n before es → AreListed m following fs → map entry_field es ≡ map entry_field fs → es ≡ fs
same_entries n m before following [] [] h g same = refl
same_entries n m before following [] (f ∷ fs) h g same = cc
same_entries n m before following (e ∷ es) [] h g same = cc
same_entries n m before following (e ∷ es) (f ∷ fs) h g same =
    let head : entry_field e ≡ entry_field f = cc in
    let rest : map entry_field es ≡ map entry_field fs = cc in
    ap₂ (λ (x : Entry) (xs : List Entry). x ∷ xs) (same_entry e f (entry_listed n before e h.0) (entry_listed m following f g.0) head) (same_entries n m (before ++ e ∷ []) (following ++ f ∷ []) es fs h.1 g.1 rest)

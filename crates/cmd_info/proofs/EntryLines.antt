-- Entries with the same fields are reported alike.
use Rattle.std.proofs.Common.{◌≡◌, ℕ, zero, suc, List, [], ◌∷◌, ◌++◌, map, flat_map, Option, Some, None, refl, sym, ap, ◌∙◌, codes}
use Rattle.serde_json.specs.Data.{Data, Items, Members, null, number, unsigned, string, array, object, no_items, item, no_members, member}
use Rattle.base_model.specs.declared.labels.Label.{Label}
use Rattle.base_model.specs.declared.wal.Span.{Span}
use Rattle.base_model.specs.Text.{Text}
use Rattle.base_model.specs.Fields.{Field, or_null, items_from}
use Rattle.base_model.specs.Names.{label_text, segment_text}
use Rattle.base_model.specs.InfoFiles.{entry_field, kind_text, label_value, segment_value}
use Rattle.base_model.specs.Values.{Entry}
use Rattle.cmd_info.specs.ReportText.{status_text, wal_text, reference_lines, backup_lines}
use Rattle.cmd_info.specs.ReportData.{status_data}

-- ---- the values of an entry's fields

abbrev members_of : Data → Members
members_of (object ms) = ms
members_of d = no_members

abbrev member_at : ℕ → Members → Data
member_at n no_members = null
member_at zero (member k d ms) = d
member_at (suc n) (member k d ms) = member_at n ms

abbrev value_at : ℕ → Field → Data
value_at n k = member_at n (members_of k.1)

abbrev text_in : Data → Text
text_in (string t) = t
text_in d = []

abbrev items_in : Data → Items
items_in (array is) = is
items_in d = no_items

abbrev first_in : Items → Data
first_in no_items = null
first_in (item d is) = d

abbrev others_in : Items → Items
others_in no_items = no_items
others_in (item d is) = is

-- ---- the parts of the report

same_number : (n m : ℕ) → ◌≡◌ {A = Data} (number (unsigned n)) (number (unsigned m)) → n ≡ m
same_number n m e = cc

same_wal : (a b : Option Span) → or_null (λ (s : Span). segment_value s.start) a ≡ or_null (λ (s : Span). segment_value s.start) b → or_null (λ (s : Span). segment_value s.stop) a ≡ or_null (λ (s : Span). segment_value s.stop) b → wal_text a ≡ wal_text b
same_wal None None start stop = refl
same_wal None (Some b) start stop = let h : ◌≡◌ {A = Data} null (string (segment_text b.start)) = start in cc
same_wal (Some a) None start stop = let h : ◌≡◌ {A = Data} (string (segment_text a.start)) null = start in cc
same_wal (Some a) (Some b) start stop =
    ap (λ (t : Text). t ++ (codes " / " ++ segment_text a.stop)) (ap text_in start) ∙ ap (λ (t : Text). segment_text b.start ++ (codes " / " ++ t)) (ap text_in stop)

same_texts : (xs ys : List Label) → items_from (map label_value xs) ≡ items_from (map label_value ys) → map label_text xs ≡ map label_text ys
same_texts [] [] e = refl
same_texts [] (y ∷ ys) e = let h : ◌≡◌ {A = Items} no_items (item (label_value y) (items_from (map label_value ys))) = e in cc
same_texts (x ∷ xs) [] e = let h : ◌≡◌ {A = Items} (item (label_value x) (items_from (map label_value xs))) no_items = e in cc
same_texts (x ∷ xs) (y ∷ ys) e =
    ap (λ (t : Text). t ∷ map label_text xs) (ap (λ (is : Items). text_in (first_in is)) e) ∙ ap (λ (ts : List Text). label_text y ∷ ts) (same_texts xs ys (ap others_in e))

-- the labels with this between them
abbrev between : List Text → Text
between = flat_map (λ (t : Text). codes ", " ++ t)

joined : (xs : List Label) → flat_map (λ (l : Label). codes ", " ++ label_text l) xs ≡ between (map label_text xs)
joined [] = refl
joined (x ∷ xs) = ap (λ (t : Text). (codes ", " ++ label_text x) ++ t) (joined xs)

abbrev listed : List Text → List Text
listed [] = []
listed (t ∷ ts) = (codes "            backup reference list: " ++ (t ++ between ts)) ∷ []

references_are : (ls : List Label) → reference_lines ls ≡ listed (map label_text ls)
references_are [] = refl
references_are (l ∷ ls) = ap (λ (t : Text). (codes "            backup reference list: " ++ (label_text l ++ t)) ∷ []) (joined ls)

same_references : (xs ys : List Label) → map label_text xs ≡ map label_text ys → reference_lines xs ≡ reference_lines ys
same_references xs ys e = references_are xs ∙ ap listed e ∙ sym (references_are ys)

-- ---- an entry, and a list of them

same_lines : (x y : Entry) → entry_field x ≡ entry_field y → backup_lines x ≡ backup_lines y
unfolding backup_lines
same_lines x y e =
    let label : label_text x.label ≡ label_text y.label = ap (λ (k : Field). k.0) e in
    let kind : kind_text x.kind ≡ kind_text y.kind = ap (λ (k : Field). text_in (value_at 8 k)) e in
    let start : x.start ≡ y.start = same_number x.start y.start (ap (value_at 6) e) in
    let stop : x.stop ≡ y.stop = same_number x.stop y.stop (ap (value_at 7) e) in
    let size : x.size ≡ y.size = same_number x.size y.size (ap (value_at 3) e) in
    let stored : x.stored ≡ y.stored = same_number x.stored y.stored (ap (value_at 2) e) in
    let wal : wal_text x.span ≡ wal_text y.span = same_wal x.span y.span (ap (value_at 0) e) (ap (value_at 1) e) in
    let references : reference_lines x.references ≡ reference_lines y.references = same_references x.references y.references (same_texts x.references y.references (ap (λ (k : Field). items_in (value_at 5 k)) e)) in
    rw (label, kind, start, stop, size, stored, wal, references) refl

abbrev head_of : List Field → Option Field
head_of [] = None
head_of (k ∷ ks) = Some k

abbrev tail_of : List Field → List Field
tail_of [] = []
tail_of (k ∷ ks) = ks

some_same : (a b : Field) → ◌≡◌ {A = Option Field} (Some a) (Some b) → a ≡ b
some_same a b e = cc

pub same_backup_lines : (xs ys : List Entry) → map entry_field xs ≡ map entry_field ys → flat_map backup_lines xs ≡ flat_map backup_lines ys
same_backup_lines [] [] e = refl
same_backup_lines [] (y ∷ ys) e = let h : ◌≡◌ {A = Option Field} None (Some (entry_field y)) = ap head_of e in cc
same_backup_lines (x ∷ xs) [] e = let h : ◌≡◌ {A = Option Field} (Some (entry_field x)) None = ap head_of e in cc
same_backup_lines (x ∷ xs) (y ∷ ys) e =
    ap (λ (ls : List Text). ls ++ flat_map backup_lines xs) (same_lines x y (some_same (entry_field x) (entry_field y) (ap head_of e))) ∙ ap (λ (ls : List Text). backup_lines y ++ ls) (same_backup_lines xs ys (ap tail_of e))

pub same_status_text : (xs ys : List Entry) → map entry_field xs ≡ map entry_field ys → status_text xs ≡ status_text ys
same_status_text [] [] e = refl
same_status_text [] (y ∷ ys) e = let h : ◌≡◌ {A = Option Field} None (Some (entry_field y)) = ap head_of e in cc
same_status_text (x ∷ xs) [] e = let h : ◌≡◌ {A = Option Field} (Some (entry_field x)) None = ap head_of e in cc
same_status_text (x ∷ xs) (y ∷ ys) e = refl

pub same_status_data : (xs ys : List Entry) → map entry_field xs ≡ map entry_field ys → status_data xs ≡ status_data ys
same_status_data [] [] e = refl
same_status_data [] (y ∷ ys) e = let h : ◌≡◌ {A = Option Field} None (Some (entry_field y)) = ap head_of e in cc
same_status_data (x ∷ xs) [] e = let h : ◌≡◌ {A = Option Field} (Some (entry_field x)) None = ap head_of e in cc
same_status_data (x ∷ xs) (y ∷ ys) e = refl

-- The values that represent listed backups are built.
use Rattle.std.proofs.Common.{◌≡◌, ℕ, ◌<◌, ◌≤◌, ◌^◌, List, [], ◌∷◌, ◌++◌, map, Option, Some, None, codes, IsUtf8, true, refl, ap, arith}
use Rattle.std.specs.Prelude.{IfSome, Any}
use Rattle.std.specs.List.{AllByRecursion}
use Rattle.json.proofs.Printed.Utf8.{IsUtf8-are_ascii}
use Rattle.serde_json.specs.Data.{Data, string, depth, items_depth}
use Rattle.serde_json.specs.Read.{max_depth}
use Rattle.base_model.specs.declared.labels.Label.{Label}
use Rattle.base_model.specs.declared.labels.BackupKind.{BackupKind}
use Rattle.base_model.specs.declared.labels.BackupKind.TheVariants.{Full, Diff, Incr}
use Rattle.base_model.specs.declared.wal.Span.{Span}
use Rattle.base_model.specs.Fields.{Field, items_from, or_null}
use Rattle.base_model.specs.InfoText.{IsKey, IsSection}
use Rattle.base_model.specs.InfoFiles.{IsLabel, IsListedEntry, AreListed, label_value, segment_value, kind_text, entry_field}
use Rattle.base_model.specs.Names.{label_text, segment_text}
use Rattle.base_model.specs.Values.{Entry}
use Rattle.base_devices.specs.Order.{is_before, are_after, are_in_order}
use Rattle.repo_ini.specs.Built.{IsBuilt, AreBuilt}
use Rattle.repo_ini.proofs.Objects.{IsBuilt-object}
use Rattle.repo_ini.proofs.Keys.{IsKey-built}
use Rattle.repo_info.specs.Entries.{HasLabels}
use Rattle.repo_keys.proofs.ByKey.{both, after_nothing}
use Rattle.repo_info.proofs.PlainTexts.{label_some, is_key-label_text, IsUtf8-label_text, IsUtf8-segment_text}

built_labels : (ls : List Label) → AllByRecursion IsLabel ls → AreBuilt (items_from (map label_value ls))
built_labels [] h = tt
built_labels (l ∷ ls) h = (IsUtf8-label_text l h.0, built_labels ls h.1)

labels_depth : (ls : List Label) → items_depth (items_from (map label_value ls)) ≡ 0
labels_depth [] = refl
labels_depth (l ∷ ls) = rw (labels_depth ls) refl

built_or_null : {X : Type 0} (f : X → Data) (o : Option X) → IfSome o (λ x. IsBuilt (f x)) → IsBuilt (or_null f o)
built_or_null f None h = tt
built_or_null f (Some x) h = h

if_label : (o : Option Label) → IfSome o IsLabel → IfSome o (λ l. IsBuilt (label_value l))
if_label None h = tt
if_label (Some l) h = IsUtf8-label_text l h

if_span : (o : Option Span) → IfSome o (λ s. IsBuilt (segment_value s.start)) × IfSome o (λ s. IsBuilt (segment_value s.stop))
if_span None = (tt, tt)
if_span (Some s) = (IsUtf8-segment_text s.start, IsUtf8-segment_text s.stop)

kind_utf8 : (k : BackupKind) → IsUtf8 (kind_text k)
kind_utf8 Full = IsUtf8-are_ascii (codes "full") refl
kind_utf8 Diff = IsUtf8-are_ascii (codes "diff") refl
kind_utf8 Incr = IsUtf8-are_ascii (codes "incr") refl

text_depth : {X : Type 0} (f : X → List ℕ) (o : Option X) → depth (or_null (λ x. string (f x)) o) ≡ 0
text_depth f None = refl
text_depth f (Some x) = refl

pub built_entry : (e : Entry) → HasLabels e → e.stored < 2 ^ 64 → e.size < 2 ^ 64 → e.start < 2 ^ 64 → e.stop < 2 ^ 64 → e.db < 2 ^ 64 → IsBuilt (entry_field e).1
built_entry e h stored size start stop db =
    let spans = if_span e.span in
    IsBuilt-object (entry_field e).1 refl (
      built_or_null (λ (s : Span). segment_value s.start) e.span spans.0,
      (
        built_or_null (λ (s : Span). segment_value s.stop) e.span spans.1,
        (
          stored,
          (
            size,
            (
              built_or_null label_value e.prior (if_label e.prior h.prior),
              (built_labels e.references h.references, (start, (stop, (kind_utf8 e.kind, (db, tt))))),
            ),
          ),
        ),
      ),
    )

pub entry_depth : (e : Entry) → depth (entry_field e).1 ≤ max_depth
entry_depth e =
    omega (arith, labels_depth e.references, text_depth label_text e.prior, text_depth (λ (s : Span). segment_text s.start) e.span, text_depth (λ (s : Span). segment_text s.stop) e.span)

IsKey-entry : (e : Entry) → HasLabels e → e.stored < 2 ^ 64 → e.size < 2 ^ 64 → e.start < 2 ^ 64 → e.stop < 2 ^ 64 → e.db < 2 ^ 64 → IsKey (entry_field e)
IsKey-entry e h stored size start stop db =
    IsKey-built (label_text e.label) (entry_field e).1 (is_key-label_text e.label h.label) (IsUtf8-label_text e.label h.label) (built_entry e h stored size start stop db) (entry_depth e)

pub HasLabels-listed : (clusters : ℕ) (earlier : List Entry) (e : Entry) → IsListedEntry clusters earlier e → HasLabels e
HasLabels-listed clusters earlier e h = record { label = h.label; prior = of_prior e.prior h.prior; references = h.references }
  where
    of_prior : (o : Option Label) → IfSome o (λ l. IsLabel l × Any (λ (p : Entry). p.label ≡ l) earlier) → IfSome o IsLabel
    of_prior None g = tt
    of_prior (Some l) g = g.0

keys_listed : (clusters : ℕ) (earlier es : List Entry) → AreListed clusters earlier es → AllByRecursion IsKey (map entry_field es)
keys_listed clusters earlier [] h = tt
keys_listed clusters earlier (e ∷ es) h =
    let g = h.0 in
    (IsKey-entry e (HasLabels-listed clusters earlier e g) g.stored g.size (omega (arith, g.start)) (omega (arith, g.stop)) (omega (arith, g.db.2)), keys_listed clusters (earlier ++ e ∷ []) es h.1)

names_listed : (es : List Entry) → map (λ (k : Field). k.0) (map entry_field es) ≡ map (λ (e : Entry). label_text e.label) es
names_listed [] = refl
names_listed (e ∷ es) = ap (λ l. label_text e.label ∷ l) (names_listed es)

-- the listed backups are a section
pub listed_rules : (clusters : ℕ) (e : Entry) (es : List Entry) → AreListed clusters [] (e ∷ es) → are_in_order (map (λ e. label_text e.label) (e ∷ es)) ≡ true → IsSection (record { name = codes "backup:current"; keys = map entry_field (e ∷ es) })
listed_rules clusters e es h order = record {
  name = refl;
  utf8 = IsUtf8-are_ascii (codes "backup:current") refl;
  some = refl;
  keys = keys_listed clusters [] (e ∷ es) h;
  order = both (is_before [] (label_text e.label)) (are_after (label_text e.label) (map (λ (k : Field). k.0) (map entry_field es))) (after_nothing (label_text e.label) (label_some e.label)) (rw (names_listed es) order);
}

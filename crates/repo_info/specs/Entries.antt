-- Which entries have a value in `backup.info`, and what it states.
use Rattle.std.specs.Prelude.{◌≡◌, ◌≢◌, ◌<◌, ◌≤◌, ◌^◌, List, Vec, map, true, codes, IfSome, Option, Some, None, option_map}
use Rattle.std.specs.declared.alloc.Global.{Global}
use Rattle.std.specs.List.{AllByRecursion}
use Rattle.serde_json.specs.Data.{Data, Members, put}
use Rattle.base_devices.specs.Order.{are_in_order}
use Rattle.base_model.specs.declared.labels.Entry as code
use Rattle.base_model.specs.declared.labels.Label.{Label}
use Rattle.base_model.specs.declared.wal.Segment.{Segment}
use Rattle.base_model.specs.declared.wal.Span.{Span}
use Rattle.base_devices.specs.States.{last_second}
use Rattle.base_model.specs.Fields.{Field, whole, list_of, or_null}
use Rattle.base_model.specs.Names.{label_text}
use Rattle.base_model.specs.InfoFiles.{IsLabel, IsSegment, label_kind, label_value, segment_value, entry_field}
use Rattle.base_model.specs.Values.{Entry, entry_of}
use Rattle.repo_info.specs.declared.entry_reader.Numbers.{Numbers}

-- the labels have texts
pub record HasLabels (e : Entry) : Type 0 where
  pub label : IsLabel e.label
  pub prior : IfSome e.prior IsLabel
  pub references : AllByRecursion IsLabel e.references

-- both segments have names
abbrev pub IsSpan : Span → Type 0
IsSpan s = IsSegment s.start × IsSegment s.stop

-- the rules of a listed backup by itself
pub record IsEntry (e : Entry) : Type 0 where
  pub labels : HasLabels e
  pub kind : e.kind ≡ label_kind e.label
  pub reference_order : are_in_order (map label_text e.references) ≡ true
  pub db : (1 ≤ e.db) × (e.db < 2 ^ 32)
  pub span : IfSome e.span IsSpan
  pub start : e.start ≤ last_second
  pub stop : e.stop ≤ last_second
  pub size : e.size < 2 ^ 64
  pub stored : e.stored < 2 ^ 64

-- the span of two ends, which has both or none
abbrev pub between : Option Segment → Option Segment → Option (Option Span)
between None None = Some None
between (Some a) (Some b) = Some (Some (record { start = a; stop = b }))
between None (Some b) = None
between (Some a) None = None

-- ---- what is written

-- the fields of listed backups
abbrev pub entry_fields : List code.Entry → List Field
entry_fields es = map entry_field (map entry_of es)

-- the two ends of a backup's log
abbrev pub start_value : Option Span → Data
start_value span = or_null (λ s. segment_value s.start) span

abbrev pub stop_value : Option Span → Data
stop_value span = or_null (λ s. segment_value s.stop) span

-- the members with these of an entry, pair by pair: its log, its sizes, the backups on which it rests, its times
abbrev pub with_log : Option Span → Members → Members
with_log span ms = put (codes "backup-archive-stop") (stop_value span)
    (put (codes "backup-archive-start") (start_value span) ms)

abbrev pub with_sizes : code.Entry → Members → Members
with_sizes e ms = put (codes "backup-info-size") (whole e.size)
    (put (codes "backup-info-repo-size-delta") (whole e.stored) ms)

abbrev pub with_others : code.Entry → Members → Members
with_others e ms = put (codes "backup-reference") (list_of (map label_value e.references.items))
    (put (codes "backup-prior") (or_null label_value e.prior) ms)

abbrev pub with_times : code.Entry → Members → Members
with_times e ms = put (codes "backup-timestamp-stop") (whole e.stop)
    (put (codes "backup-timestamp-start") (whole e.start) ms)

-- ---- what is read

-- the value states this entry of this label
abbrev pub StatesEntry : Label → Data → Entry → Type 0
StatesEntry label value e = IsEntry e × (e.label ≡ label) × (value ≡ (entry_field e).1)

abbrev pub StatesNoEntry : Label → Data → Type 0
StatesNoEntry label value = (e : Entry) → IsEntry e → e.label ≡ label → value ≢ (entry_field e).1

-- where the value states an entry of this label, it is the one that was read
abbrev pub EntryIs : Label → Data → Option code.Entry → Type 0
EntryIs label value read = (e : Entry) → IsEntry e → e.label ≡ label → value ≡ (entry_field e).1
    → option_map entry_of read ≡ Some e

-- the numbers of an entry
abbrev pub numbers_of : Entry → Numbers
numbers_of e = record { db = e.db; start = e.start; stop = e.stop; size = e.size; stored = e.stored }

-- where the value states an entry, the labels that were read are those on which it rests
abbrev pub ReferencesAre : Data → Option (Vec Label Global) → Type 0
ReferencesAre value read = (e : Entry) → IsEntry e → value ≡ (entry_field e).1
    → option_map (λ v. v.items) read ≡ Some e.references

-- where the values are the ends of a span, or of none, it is the one that was read
abbrev pub SpanIs : Data → Data → Option (Option Span) → Type 0
SpanIs start stop read = (o : Option Span) → IfSome o IsSpan → start ≡ start_value o → stop ≡ stop_value o
    → read ≡ Some o

-- where the value lists labels, they are those that were read
abbrev pub LabelsAre : Data → Option (Vec Label Global) → Type 0
LabelsAre value read = (ls : List Label) → AllByRecursion IsLabel ls → value ≡ list_of (map label_value ls)
    → option_map (λ v. v.items) read ≡ Some ls

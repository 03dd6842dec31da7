-- Which files of the archive the backups that are left need (pgBackRest configuration reference,
-- "repo-retention-archive" and "repo-retention-archive-type").
use Rattle.std.specs.Prelude.{ℕ, ◌-◌, nat_lt, nat_eq, min, Bool, true, false, not, ◌&&◌, ◌||◌, List, [], ◌∷◌, length, drop, map, filter, Option, Some, None}
use Rattle.std.specs.Option.{option_map_or}
use Rattle.std.specs.List.{flat_map}
use Rattle.base_devices.specs.Order.{is_before}
use Rattle.base_model.specs.declared.labels.BackupKind.{BackupKind}
use Rattle.base_model.specs.declared.labels.BackupKind.TheVariants.{Full, Diff, Incr}
use Rattle.base_model.specs.declared.wal.Segment.{Segment}
use Rattle.base_model.specs.declared.wal.Span.{Span}
use Rattle.base_model.specs.declared.wal.ArchiveName.{ArchiveName}
use Rattle.base_model.specs.declared.wal.ArchiveName.TheVariants.{Segment as Whole, Partial, History, Backup}
use Rattle.base_model.specs.Names.{segment_text}
use Rattle.base_model.specs.Values.{Entry}
use Rattle.expire_rules.specs.declared.rules.FullRule.{FullRule}
use Rattle.expire_rules.specs.declared.rules.FullRule.TheVariants.{Count, Days}
use Rattle.expire_rules.specs.declared.rules.Rules.{Rules}
use Rattle.expire_rules.specs.Condemned.{is_full, is_counted, has_some}

-- the backups of a cluster
abbrev pub of_cluster : ℕ → List Entry → List Entry
of_cluster number es = filter (λ e. nat_eq e.db number) es

-- the backups that count for an archive kind: full; full and differential; all
abbrev pub counts : BackupKind → Entry → Bool
counts Full e = is_full e
counts Diff e = is_counted e
counts Incr e = true

abbrev pub span_list : Option Span → List Span
span_list None = []
span_list (Some w) = w ∷ []

abbrev pub spans_of : List Entry → List Span
spans_of es = flat_map (λ e. span_list e.span) es

-- the spans of a cluster's backups that count for an archive kind
abbrev pub counted_spans : BackupKind → ℕ → List Entry → List Span
counted_spans kind number es = spans_of (filter (counts kind) (of_cluster number es))

-- how many backups with a span keep the log: as given, or as many as the kind's own rule keeps, of k that there are
abbrev pub number_by : BackupKind → FullRule → Option ℕ → ℕ → Option ℕ
number_by Full (Count n) diff k = Some n
number_by Full (Days d) diff k = Some k
number_by Diff full diff k = diff
number_by kind full diff k = None

abbrev pub archive_number : Rules → ℕ → Option ℕ
archive_number rules k = option_map_or (λ (n : ℕ). Some n) rules.archive
    (number_by rules.archive_kind rules.full rules.diff k)

-- what is kept of a cluster's files: all; or what isn't before a segment, where there is one, and what lies within
-- spans
pub record Keeping : Type 0 where
  pub all : Bool
  pub from : Option Segment
  pub spans : List Span

abbrev pub first : {X : Type 0} → List X → Option X
first [] = None
first (x ∷ xs) = Some x

-- all is kept where no number is known, and of the current cluster where there are fewer, or none at all
abbrev pub keeps_all : Bool → Option ℕ → ℕ → Bool
keeps_all current None k = true
keeps_all current (Some a) k = current && (nat_lt k a || nat_eq k 0 && nat_eq a 0)

-- the start of the a-th last of these spans, or of the first where there are fewer
abbrev pub start_from : Option ℕ → List Span → Option Segment
start_from None spans = None
start_from (Some a) spans = first (map (λ w. w.start) (drop (length spans - min a (length spans)) spans))

-- what the backups of a cluster keep
abbrev pub keeping : Rules → Bool → List Entry → Keeping
keeping rules current es =
    let counted = spans_of (filter (counts rules.archive_kind) es) in
    let number = archive_number rules (length counted) in
    record { all = keeps_all current number (length counted); from = start_from number counted; spans = spans_of es }

-- in the order of their 24 characters
abbrev pub is_at_or_after : Segment → Segment → Bool
is_at_or_after a b = not (is_before (segment_text b) (segment_text a))

abbrev pub is_within : Segment → Span → Bool
is_within s w = is_at_or_after w.start s && is_at_or_after s w.stop

abbrev pub keeps_segment : Keeping → Segment → Bool
keeps_segment k s = k.all || (option_map_or (λ (f : Segment). is_at_or_after f s) k.from false
    || has_some (is_within s) k.spans)

-- history files are always kept
abbrev pub keeps_file : Keeping → ArchiveName → Bool
keeps_file k (Whole s) = keeps_segment k s
keeps_file k (Partial s) = keeps_segment k s
keeps_file k (Backup s offset) = keeps_segment k s
keeps_file k (History timeline) = true

-- of the files under a number, with these backups listed
abbrev pub keeping_of : Rules → ℕ → List Entry → ℕ → Keeping
keeping_of rules current es number = keeping rules (nat_eq number current) (of_cluster number es)

-- The report of a stanza as text (pgBackRest user guide, "Information").
use Rattle.std.specs.Prelude.{ℕ, Bool, not, ◌==◌, List, [], ◌∷◌, ◌++◌, filter, flat_map, Option, Some, None, codes, decimal, if◌then◌else◌}
use Rattle.std.specs.List.{join_by}
use Rattle.base_model.specs.declared.clusters.ClusterId.{ClusterId}
use Rattle.base_model.specs.declared.labels.Label.{Label}
use Rattle.base_model.specs.declared.wal.Span.{Span}
use Rattle.base_model.specs.Names.{label_text, segment_text}
use Rattle.base_model.specs.InfoFiles.{kind_text}
use Rattle.base_model.specs.Text.{Text}
use Rattle.base_model.specs.Values.{ArchiveInfo, BackupInfo, Entry, archive_info_of, backup_info_of}
use Rattle.cmd_info.specs.declared.report.report.ArchivedName.{ArchivedName}
use Rattle.cmd_info.specs.declared.report.report.Report.{Report}
use Rattle.cmd_info.specs.Archived.{id_of, segments_under, least, greatest}
use Rattle.cmd_info.specs.Lines.{text_of_lines}
use Rattle.cmd_info.specs.Moments.{moment}

-- ---- the stanza

-- the stanza's line, and that of its status
abbrev pub status_text : List Entry → Text
status_text [] = codes "error (no valid backups)"
status_text (e ∷ es) = codes "ok"

abbrev pub stanza_lines : Text → List Entry → List Text
stanza_lines stanza backups =
    (codes "stanza: " ++ stanza)
    ∷ (codes "    status: " ++ status_text backups)
    ∷ codes "    cipher: none" ∷ []

-- ---- its clusters

-- whether the cluster is the current one
abbrev pub is_current : ℕ → ClusterId → Bool
is_current current c = c.id == current

-- those before, and then the current one
abbrev pub shown_clusters : ℕ → List ClusterId → List ClusterId
shown_clusters current history = filter (λ c. not (is_current current c)) history ++ filter (is_current current) history

abbrev pub cluster_word : Bool → Text
cluster_word current = if current then codes "current" else codes "prior"

abbrev pub bounds_text : Option Text → Option Text → Text
bounds_text (Some first) (Some last) = first ++ 47 ∷ last
bounds_text first last = codes "none present"

abbrev pub archive_bounds : List ArchivedName → ClusterId → Text
archive_bounds archived c = let names = segments_under (id_of c) archived in bounds_text (least names) (greatest names)

abbrev pub bounds_line : List ArchivedName → ClusterId → Text
bounds_line archived c = codes "        wal archive min/max ("
    ++ (decimal c.version ++ (codes "): " ++ archive_bounds archived c))

unfoldable pub cluster_lines : ℕ → List ArchivedName → ClusterId → List Text
cluster_lines current archived c =
    []
    ∷ (codes "    db (" ++ (cluster_word (is_current current c) ++ codes ")"))
    ∷ bounds_line archived c ∷ []

-- of each cluster of a history, the current one last
abbrev pub history_lines : ℕ → List ArchivedName → List ClusterId → List Text
history_lines current archived history = flat_map (cluster_lines current archived) (shown_clusters current history)

-- ---- its backups

-- the lines of a backup
abbrev pub wal_text : Option Span → Text
wal_text None = codes "n/a"
wal_text (Some span) = segment_text span.start ++ (codes " / " ++ segment_text span.stop)

abbrev pub name_line : Entry → Text
name_line e = codes "        " ++ (kind_text e.kind ++ (codes " backup: " ++ label_text e.label))

abbrev pub times_line : Entry → Text
times_line e = codes "            timestamp start/stop: " ++ (moment e.start ++ (codes " / " ++ moment e.stop))

abbrev pub wal_line : Entry → Text
wal_line e = codes "            wal start/stop: " ++ wal_text e.span

abbrev pub sizes_line : Entry → Text
sizes_line e = codes "            database size: "
    ++ (decimal e.size ++ (codes "B, backup size: " ++ (decimal e.stored ++ codes "B")))

abbrev pub reference_line : List Label → Text
reference_line labels = codes "            backup reference list: " ++ join_by label_text (codes ", ") labels

-- a last line, where there are references
abbrev pub reference_lines : List Label → List Text
reference_lines [] = []
reference_lines (l ∷ ls) = reference_line (l ∷ ls) ∷ []

unfoldable pub backup_lines : Entry → List Text
backup_lines e =
    []
    ∷ name_line e
    ∷ times_line e
    ∷ wal_line e
    ∷ sizes_line e
    ∷ reference_lines e.references

-- ---- the whole

-- all lines of a stanza, and the whole report
abbrev pub report_lines : Text → ArchiveInfo → BackupInfo → List ArchivedName → List Text
report_lines stanza archive info archived =
    stanza_lines stanza info.backups
    ++ flat_map (cluster_lines archive.current archived) (shown_clusters archive.current archive.history)
    ++ flat_map backup_lines info.backups

unfoldable pub report_text_of : Text → ArchiveInfo → BackupInfo → List ArchivedName → Text
report_text_of stanza archive info archived = text_of_lines (report_lines stanza archive info archived)

-- of what the code reports
abbrev pub text_of_report : Report → Text
text_of_report r = report_text_of r.stanza.now (archive_info_of r.archive.now) (backup_info_of r.info.now)
    r.archived.now

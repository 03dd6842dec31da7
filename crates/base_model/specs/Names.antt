-- The names of a repository's files (pgBackRest user guide, "Configure Repository"; PostgreSQL manual, "Continuous
-- Archiving").
use Rattle.std.specs.Prelude.{ℕ, [], ◌∷◌, ◌++◌, Option, Some, None, codes, decimal, Bool, ◌||◌, IsTrue}
use Rattle.base_devices.specs.Content.{is_below}
use Rattle.base_model.specs.declared.wal.Segment.{Segment}
use Rattle.base_model.specs.declared.wal.ArchiveId.{ArchiveId}
use Rattle.base_model.specs.declared.wal.ArchiveName.{ArchiveName}
use Rattle.base_model.specs.declared.wal.ArchiveName.TheVariants.{Segment as Whole, Partial, History, Backup}
use Rattle.base_model.specs.declared.labels.Label.{Label}
use Rattle.base_model.specs.declared.labels.Later.{Later}
use Rattle.base_model.specs.declared.labels.BackupKind.{BackupKind}
use Rattle.base_model.specs.declared.labels.BackupKind.TheVariants.{Full, Diff, Incr}
use Rattle.base_model.specs.Text.{Text, ◌⫽◌, hex_upper}
use Rattle.base_model.specs.Dates.{stamp}

-- the second member of a pair
abbrev pub copy_of : Text → Text
copy_of name = name ++ codes ".copy"

abbrev pub archive_folder : Text → Text
archive_folder stanza = codes "archive" ⫽ stanza

abbrev pub backup_folder : Text → Text
backup_folder stanza = codes "backup" ⫽ stanza

-- the main members of the two info pairs
abbrev pub archive_info : Text → Text
archive_info stanza = archive_folder stanza ⫽ codes "archive.info"

abbrev pub backup_info : Text → Text
backup_info stanza = backup_folder stanza ⫽ codes "backup.info"

abbrev pub letter : BackupKind → ℕ
letter Full = 70
letter Diff = 68
letter Incr = 73

abbrev pub later_text : Option Later → Text
later_text None = []
later_text (Some l) = 95 ∷ stamp l.time ++ letter l.kind ∷ []

-- `20240102-030405F`, or that with `_20240103-030405D` or `.. I` after it
abbrev pub label_text : Label → Text
label_text l = stamp l.full ++ 70 ∷ later_text l.later

abbrev pub label_folder : Text → Label → Text
label_folder stanza l = backup_folder stanza ⫽ label_text l

abbrev pub manifest_name : Text → Label → Text
manifest_name stanza l = label_folder stanza l ⫽ codes "backup.manifest"

-- `backup/<stanza>/<label>/pg_data/<path>`
abbrev pub file_name : Text → Label → Text → Text
file_name stanza l path = label_folder stanza l ⫽ codes "pg_data" ⫽ path

-- `backup/<stanza>/<label>/bundle/<number>`
abbrev pub bundle_name : Text → Label → ℕ → Text
bundle_name stanza l number = label_folder stanza l ⫽ codes "bundle" ⫽ decimal number

-- 24 digits: timeline, log, segment
abbrev pub segment_text : Segment → Text
segment_text s = hex_upper 8 s.timeline ++ hex_upper 8 s.log ++ hex_upper 8 s.seg

-- the folder of a segment: its first 16 digits
abbrev pub segment_folder : Segment → Text
segment_folder s = hex_upper 8 s.timeline ++ hex_upper 8 s.log

-- the version and the history number, as `16-1`
abbrev pub id_text : ArchiveId → Text
id_text id = decimal id.version ++ 45 ∷ decimal id.number

-- an archive file's name below its id; only a whole and a partial segment have the digits of their sum in it
abbrev pub archive_text : ArchiveName → Text → Text
archive_text (Whole s) sum = segment_folder s ⫽ (segment_text s ++ 45 ∷ sum)
archive_text (Partial s) sum = segment_folder s ⫽ (segment_text s ++ codes ".partial-" ++ sum)
archive_text (Backup s number) sum = segment_folder s ⫽ (segment_text s ++ 46 ∷ hex_upper 8 number ++ codes ".backup")
archive_text (History timeline) sum = hex_upper 8 timeline ++ codes ".history"

-- the name as a server gives it
abbrev pub wal_text : ArchiveName → Text
wal_text (Whole s) = segment_text s
wal_text (Partial s) = segment_text s ++ codes ".partial"
wal_text (Backup s number) = segment_text s ++ 46 ∷ hex_upper 8 number ++ codes ".backup"
wal_text (History timeline) = hex_upper 8 timeline ++ codes ".history"

-- `archive/<stanza>/<id>/..`
abbrev pub archive_name : Text → ArchiveId → ArchiveName → Text → Text
archive_name stanza id name sum = archive_folder stanza ⫽ id_text id ⫽ archive_text name sum

-- the mark in the spool that a file was stored
abbrev pub receipt_name : Text → ArchiveName → Text
receipt_name stanza name = archive_folder stanza ⫽ codes "out" ⫽ (wal_text name ++ codes ".ok")

-- the name lies below one of the stanza's folders
abbrev pub is_of_stanza : Text → Text → Bool
is_of_stanza stanza name = is_below (archive_folder stanza) name || is_below (backup_folder stanza) name

-- the same as a statement
abbrev pub IsOfStanza : Text → Text → Type 0
IsOfStanza stanza name = IsTrue (is_of_stanza stanza name)

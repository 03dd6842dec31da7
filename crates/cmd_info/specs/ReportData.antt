-- The report of a stanza as JSON (pgBackRest command reference, "Info Command", option `output`).
use Rattle.std.specs.Prelude.{ℕ, List, [], ◌∷◌, ◌++◌, length, map, take, codes}
use Rattle.serde_json.specs.Data.{Data, string, object, put}
use Rattle.serde_json.specs.Written.{compact_text}
use Rattle.base_model.specs.declared.clusters.Cluster.{Cluster}
use Rattle.base_model.specs.declared.clusters.ClusterId.{ClusterId}
use Rattle.base_model.specs.Fields.{whole, fields, list_of, or_null}
use Rattle.base_model.specs.InfoFiles.{cluster_field, entry_field, label_value}
use Rattle.base_model.specs.Names.{id_text}
use Rattle.base_model.specs.Text.{Text}
use Rattle.base_model.specs.Values.{ArchiveInfo, BackupInfo, Entry, archive_info_of, backup_info_of}
use Rattle.cmd_info.specs.declared.report.report.ArchivedName.{ArchivedName}
use Rattle.cmd_info.specs.declared.report.report.Report.{Report}
use Rattle.cmd_info.specs.Archived.{id_of, segments_under, least, greatest}

-- an object with one key more
abbrev pub with_key : Text → Data → Data → Data
with_key key value (object ms) = object (put key value ms)
with_key key value other = other

-- the folder of a cluster's files in the archive, with its last and its first segment
abbrev pub archive_data : List ArchivedName → ClusterId → Data
archive_data archived c =
    let names = segments_under (id_of c) archived in
    fields ((codes "id", string (id_text (id_of c))) ∷ (codes "max", or_null string (greatest names))
    ∷ (codes "min", or_null string (least names)) ∷ [])

-- a backup as `backup.info` lists it, with its label
abbrev pub backup_data : Entry → Data
backup_data e = with_key (codes "label") (label_value e.label) (entry_field e).1

-- a cluster as `backup.info` states it, with its number
abbrev pub cluster_data : Cluster → Data
cluster_data c = with_key (codes "id") (whole c.id) (cluster_field c).1

abbrev pub status_code : List Entry → ℕ
status_code [] = 2
status_code (e ∷ es) = 0

abbrev pub status_message : List Entry → Text
status_message [] = codes "no valid backups"
status_message (e ∷ es) = codes "ok"

abbrev pub status_data : List Entry → Data
status_data backups = fields ((codes "code", whole (status_code backups))
    ∷ (codes "message", string (status_message backups)) ∷ [])

-- of the clusters in `backup.info` those that the archive has
abbrev pub stanza_data : Text → ArchiveInfo → BackupInfo → List ArchivedName → Data
stanza_data stanza archive info archived =
    fields (
    (codes "archive", list_of (map (archive_data archived) archive.history))
    ∷ (codes "backup", list_of (map backup_data info.backups))
    ∷ (codes "cipher", string (codes "none"))
    ∷ (codes "db", list_of (map cluster_data (take (length archive.history) info.history)))
    ∷ (codes "name", string stanza)
    ∷ (codes "status", status_data info.backups) ∷ [])

-- a list with the one stanza
abbrev pub report_data : Text → ArchiveInfo → BackupInfo → List ArchivedName → Data
report_data stanza archive info archived = list_of (stanza_data stanza archive info archived ∷ [])

-- one line, with its newline
unfoldable pub report_json_of : Text → ArchiveInfo → BackupInfo → List ArchivedName → Text
report_json_of stanza archive info archived = compact_text (report_data stanza archive info archived) ++ 10 ∷ []

-- of what the code reports
abbrev pub data_of_report : Report → Data
data_of_report r = report_data r.stanza.now (archive_info_of r.archive.now) (backup_info_of r.info.now) r.archived.now

abbrev pub json_of_report : Report → Text
json_of_report r = report_json_of r.stanza.now (archive_info_of r.archive.now) (backup_info_of r.info.now)
    r.archived.now

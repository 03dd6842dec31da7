-- The first and the last segment that is archived of a cluster (pgBackRest user guide, "Information").
use Rattle.std.specs.Prelude.{◌==◌, ◌&&◌, Bool, List, map, Option, Some, None, if◌then◌else◌}
use Rattle.std.specs.List.{filter_map, reduce}
use Rattle.std.specs.Ordering.{min_by_ordering, max_by_ordering}
use Rattle.base_model.specs.declared.clusters.ClusterId.{ClusterId}
use Rattle.base_model.specs.declared.wal.ArchiveId.{ArchiveId}
use Rattle.base_model.specs.declared.wal.ArchiveName.{ArchiveName}
use Rattle.base_model.specs.declared.wal.ArchiveName.TheVariants.{Segment as Whole}
use Rattle.base_model.specs.declared.wal.Segment.{Segment}
use Rattle.base_model.specs.Names.{segment_text}
use Rattle.base_model.specs.Text.{Text, text_cmp}
use Rattle.cmd_info.specs.declared.report.report.ArchivedName.{ArchivedName}

-- the folder of a cluster's files in the archive
abbrev pub id_of : ClusterId → ArchiveId
id_of c = record { version = c.version; number = c.id }

abbrev pub is_same_id : ArchiveId → ArchiveId → Bool
is_same_id a b = (a.version == b.version) && (a.number == b.number)

-- partial segments and histories are none
abbrev pub whole_segment : ArchiveName → Option Segment
whole_segment (Whole s) = Some s
whole_segment name = None

-- the whole segment that this file is, if it lies under the id
abbrev pub segment_under : ArchiveId → ArchivedName → Option Segment
segment_under id file = if is_same_id file.id id then whole_segment file.name else None

-- the names of the whole segments under an id
abbrev pub segments_under : ArchiveId → List ArchivedName → List Text
segments_under id files = map segment_text (filter_map (segment_under id) files)

abbrev pub lesser : Text → Text → Text
lesser a b = min_by_ordering (text_cmp a b) a b

abbrev pub greater : Text → Text → Text
greater a b = max_by_ordering (text_cmp a b) a b

-- the first in byte order
abbrev pub least : List Text → Option Text
least names = reduce lesser names

-- the last in byte order
abbrev pub greatest : List Text → Option Text
greatest names = reduce greater names

-- The status and the message of each refusal of archive-get (own).
use Rattle.std.specs.Prelude.{ℕ, ◌++◌, codes, string_bytes}
use Rattle.base_text.specs.declared.sum.Sum.{Sum}
use Rattle.base_text.specs.Sum.{sum_text}
use Rattle.base_model.specs.Text.{Text}
use Rattle.cmd_types.specs.StagesTexts.{shown, mismatch_text, long_text, twice_text}
use Rattle.cmd_archive_get.specs.declared.fault.GetFault.{GetFault}
use Rattle.cmd_archive_get.specs.declared.fault.GetFault.TheVariants.{SegmentName, PathOutside, StanzaMismatch, Ambiguous, SegmentDamaged, TooLong}

-- the status of what a fetch is refused for
abbrev pub get_status : GetFault → ℕ
get_status (SegmentName name) = 30
get_status (PathOutside path) = 12
get_status (StanzaMismatch kept found) = 23
get_status (Ambiguous first second) = 36
get_status (SegmentDamaged known found) = 35
get_status (TooLong name limit) = 70

-- stored bytes that don't have their sum
abbrev pub sums_text : Sum → Sum → Text
sums_text known found = codes "checksum " ++ (sum_text known.0 ++ (codes ", found " ++ sum_text found.0))

abbrev pub get_message : GetFault → Text
get_message (SegmentName name) = codes "'" ++ (shown (string_bytes name) ++ codes "' is no WAL file name")
get_message (PathOutside path) = codes "path '" ++ (shown (string_bytes path) ++ codes "' is outside the data folder")
get_message (StanzaMismatch kept found) = mismatch_text kept found
get_message (Ambiguous first second) = twice_text (string_bytes first) (string_bytes second)
get_message (SegmentDamaged known found) = sums_text known found
get_message (TooLong name limit) = long_text (string_bytes name) limit

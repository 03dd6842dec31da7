-- The status and the message of each refusal of archive-push (own).
use Rattle.std.specs.Prelude.{ℕ, ◌++◌, codes, decimal, Option, Some, None, string_bytes}
use Rattle.base_text.specs.declared.sum.Sum.{Sum}
use Rattle.base_text.specs.Sum.{sum_text}
use Rattle.base_model.specs.Text.{Text}
use Rattle.cmd_types.specs.StagesTexts.{shown, long_text, mismatch_text, twice_text}
use Rattle.cmd_archive_push.specs.declared.fault.PushFault.{PushFault}
use Rattle.cmd_archive_push.specs.declared.fault.PushFault.TheVariants.{SegmentName, PathOutside, StanzaMismatch, SegmentMissing, TooLong, HeaderForm, SegmentSize, HeaderMismatch, Ambiguous, Duplicate}

-- the status and the line of what a push is refused for
abbrev pub push_status : PushFault → ℕ
push_status (SegmentName name) = 30
push_status (PathOutside path) = 12
push_status (StanzaMismatch kept found) = 23
push_status (SegmentMissing path) = 37
push_status (TooLong name limit) = 70
push_status (HeaderForm info) = 32
push_status (SegmentSize known found) = 31
push_status (HeaderMismatch kept found) = 33
push_status (Ambiguous first second) = 36
push_status (Duplicate kept found) = 34

-- the bytes have another sum than those that are stored
abbrev pub duplicate_text : Sum → Sum → Text
duplicate_text kept found =
    codes "archived with checksum " ++ (sum_text kept.0 ++ (codes ", now " ++ sum_text found.0))

abbrev pub push_message : PushFault → Text
push_message (SegmentName name) = codes "'" ++ (shown (string_bytes name) ++ codes "' is no WAL file name")
push_message (PathOutside path) = codes "path '" ++ (shown (string_bytes path) ++ codes "' is outside the data folder")
push_message (StanzaMismatch kept found) = mismatch_text kept found
push_message (SegmentMissing path) = codes "'" ++ (shown (string_bytes path) ++ codes "' is missing")
push_message (TooLong name limit) = long_text (string_bytes name) limit
push_message (HeaderForm info) = codes "WAL header is not valid"
push_message (SegmentSize known found) =
    codes "segment size " ++ (decimal known ++ (codes ", found " ++ (decimal found ++ codes " bytes")))
push_message (HeaderMismatch kept found) =
    codes "stanza has system " ++ (decimal kept ++ (codes ", WAL has system " ++ decimal found))
push_message (Ambiguous first second) = twice_text (string_bytes first) (string_bytes second)
push_message (Duplicate kept found) = duplicate_text kept found

-- the message, where a file is refused for its content
abbrev pub content_text : PushFault → Option Text
content_text (HeaderForm info) = Some (push_message (HeaderForm info))
content_text (SegmentSize known found) = Some (push_message (SegmentSize known found))
content_text (HeaderMismatch kept found) = Some (push_message (HeaderMismatch kept found))
content_text (Duplicate kept found) = Some (push_message (Duplicate kept found))
content_text other = None

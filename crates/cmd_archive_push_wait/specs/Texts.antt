-- The status and the message of each refusal of archive-push in the background (own).
use Rattle.std.specs.Prelude.{ℕ, ◌++◌, codes, decimal, string_bytes}
use Rattle.base_model.specs.Text.{Text}
use Rattle.cmd_types.specs.StagesTexts.{shown, long_text}
use Rattle.cmd_archive_push_wait.specs.declared.fault.QueueFault.{QueueFault}
use Rattle.cmd_archive_push_wait.specs.declared.fault.QueueFault.TheVariants.{SegmentMissing, TooLong, Reported, NotYet}

-- the status of each refusal
abbrev pub queue_status : QueueFault → ℕ
queue_status (SegmentMissing path) = 37
queue_status (TooLong name limit) = 70
queue_status (Reported code text) = 39
queue_status (NotYet turns) = 38

-- the file was refused before, with this status and text
abbrev pub reported_text : ℕ → Text → Text
reported_text code text = (codes "[" ++ (decimal code ++ codes "] ")) ++ (shown text ++ codes "")

-- the file of this name wasn't stored in this many steps of others
abbrev pub late_text : Text → ℕ → Text
late_text name turns = codes "'" ++ (shown name ++ (codes "' not archived after " ++ (decimal turns ++ codes " turns")))

-- of the file of this name
abbrev pub queue_message : Text → QueueFault → Text
queue_message name (SegmentMissing path) = codes "'" ++ (shown (string_bytes path) ++ codes "' is missing")
queue_message name (TooLong long limit) = long_text (string_bytes long) limit
queue_message name (Reported code text) = reported_text code (string_bytes text)
queue_message name (NotYet turns) = late_text name turns

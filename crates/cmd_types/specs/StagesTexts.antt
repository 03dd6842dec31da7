-- The status and the message of each refusal before a command's own part (own), and texts that messages of commands
-- share.
use Rattle.std.specs.Prelude.{◌||◌, ◌==◌, ℕ, nat_lt, [], ◌++◌, map, codes, decimal, string_bytes, if◌then◌else◌}
use Rattle.base_model.specs.Text.{Text}
use Rattle.repo_info.specs.declared.fault.MemberFault.{MemberFault}
use Rattle.repo_info.specs.declared.fault.MemberFault.TheVariants.{Absent, TooLong as LongMember, Syntax, Sum, Form}
use Rattle.repo_stanza.specs.declared.fault.Identity.{Identity}
use Rattle.cmd_types.specs.declared.stages.object.Object.{Object}
use Rattle.cmd_types.specs.declared.stages.object.Object.TheVariants.{Repo, Spool, TheDataFolder, Server, Others, Clock, Locks, Config, Output}
use Rattle.cmd_types.specs.declared.stages.fault.ControlFile.{ControlFile}
use Rattle.cmd_types.specs.declared.stages.fault.ControlFile.TheVariants.{Control, Version}
use Rattle.cmd_types.specs.declared.stages.fault.StageFault.{StageFault}
use Rattle.cmd_types.specs.declared.stages.fault.StageFault.TheVariants.{ConfigMissing, ConfigLong, Held, ControlMissing, ControlShort, VersionText, VersionUnsupported, StanzaMissing, InfoDamaged}

-- ---- shared texts

-- a text as a line shows it: `?` for each control character
abbrev pub shown_byte : ℕ → ℕ
shown_byte c = if nat_lt c 32 || (c == 127) then 63 else c

abbrev pub shown : Text → Text
shown = map shown_byte

abbrev pub member_text : MemberFault → Text
member_text Absent = codes "absent"
member_text LongMember = codes "too long"
member_text (Syntax line) = codes "line " ++ decimal line
member_text (Sum known found) = codes "checksum"
member_text (Form section key) = codes "key " ++ string_bytes key

unfoldable pub damage_text : MemberFault → MemberFault → Text
damage_text main copy = codes "' is damaged: " ++ (member_text main ++ (codes " / " ++ member_text copy))

-- an info file of which neither member can be read
abbrev pub damaged_text : Text → MemberFault → MemberFault → Text
damaged_text name main copy = codes "info '" ++ (name ++ damage_text main copy)

abbrev pub identity_text : Identity → Text
identity_text i = codes "system " ++ (decimal i.system ++ (codes " version " ++ decimal i.version))

-- a data folder of another cluster than the stanza's
abbrev pub mismatch_text : Identity → Identity → Text
mismatch_text kept found = codes "stanza has "
    ++ (identity_text kept ++ (codes ", data folder has " ++ identity_text found))

-- pairs whose histories differ
abbrev pub history_text : ℕ → Text
history_text at = codes "archive history and backup history differ at " ++ decimal at

-- a file of the log that is stored twice
abbrev pub twice_text : Text → Text → Text
twice_text first second = codes "'" ++ (first ++ (codes "' and '" ++ (second ++ codes "' are both stored")))

-- a file that is too long
abbrev pub long_text : Text → ℕ → Text
long_text name limit = codes "'" ++ (shown name ++ (codes "' is longer than " ++ decimal limit))

-- ---- refusals of the stages

-- the status and the line of what is refused before the command's own part
abbrev pub stage_status : StageFault → ℕ
stage_status (ConfigMissing path) = 10
stage_status (ConfigLong path limit) = 70
stage_status (Held name) = 20
stage_status (ControlMissing file) = 28
stage_status (ControlShort length) = 25
stage_status VersionText = 26
stage_status (VersionUnsupported version) = 27
stage_status (StanzaMissing stanza) = 21
stage_status (InfoDamaged name main copy) = 22

abbrev pub file_text : ControlFile → Text
file_text Control = codes "global/pg_control"
file_text Version = codes "PG_VERSION"

abbrev pub stage_message : StageFault → Text
stage_message (ConfigMissing path) = codes "configuration '" ++ (shown (string_bytes path) ++ codes "' is missing")
stage_message (ConfigLong path limit) = long_text (string_bytes path) limit
stage_message (Held name) = codes "lock '" ++ (string_bytes name ++ codes "' is held")
stage_message (ControlMissing file) = codes "'" ++ (file_text file ++ codes "' is missing")
stage_message (ControlShort length) = codes "control file has " ++ (decimal length ++ codes " bytes")
stage_message VersionText = codes "PG_VERSION is not valid"
stage_message (VersionUnsupported version) = codes "version " ++ (decimal version ++ codes " is not supported")
stage_message (StanzaMissing stanza) = codes "stanza '" ++ (string_bytes stanza ++ codes "' does not exist")
stage_message (InfoDamaged name main copy) = damaged_text (string_bytes name) main copy

-- ---- objects that failed

-- the status of an object that failed
abbrev pub object_status : Object → ℕ
object_status Repo = 80
object_status Spool = 81
object_status TheDataFolder = 82
object_status Server = 83
object_status Clock = 84
object_status Locks = 85
object_status Config = 86
object_status Output = 87
object_status Others = 88

-- of the output, that failed, nothing is written
abbrev pub object_message : Object → Text
object_message Repo = codes "repository failed"
object_message Spool = codes "spool failed"
object_message TheDataFolder = codes "data folder failed"
object_message Server = codes "server connection failed"
object_message Clock = codes "clock failed"
object_message Locks = codes "lock failed"
object_message Config = codes "configuration failed"
object_message Output = []
object_message Others = codes "unable to start a process"

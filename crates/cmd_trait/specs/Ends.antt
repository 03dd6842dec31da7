-- The status and the output of each answer, by layers.
use Rattle.std.specs.Prelude.{ℕ, Bool, true, false, List, [], ◌∷◌, ◌++◌, ◌+◌, ◌/◌, ◌%◌, codes, decimal, string_bytes, Result, Ok, Err, if◌then◌else◌}
use Rattle.std.specs.List.{flat_map}
use Rattle.base_model.specs.Text.{Text}
use Rattle.cmd_types.specs.declared.stages.object.Object.TheVariants.{Output}
use Rattle.cmd_types.specs.declared.stages.outcome.Outcome.{Outcome}
use Rattle.cmd_types.specs.declared.stages.outcome.Outcome.TheVariants.{Finished, Absent, FindingsFound}
use Rattle.cmd_types.specs.DisksEffect.{Reached, to_end, turned_back}
use Rattle.cmd_types.specs.Reached.{fails_early, back_if}
use Rattle.cmd_types.specs.StagesTexts.{shown, stage_status, stage_message, object_status, object_message}
use Rattle.cmd_trait.specs.declared.fault.Fault.{Fault}
use Rattle.cmd_trait.specs.declared.fault.Fault.TheVariants.{Stage, Own, Failed, NoMemory}
use Rattle.cmd_trait.specs.Meaning.{Meaning}

-- the status of a fault
abbrev pub status_of : {F : Type 0} → Meaning F → Fault F → ℕ
status_of m (Stage fault) = stage_status fault
status_of m (Own fault) = m.status fault
status_of m (Failed object) = object_status object
status_of m NoMemory = 90

-- the command ended before its own first step
abbrev pub is_early : {F : Type 0} → Meaning F → Fault F → Bool
is_early m (Stage fault) = true
is_early m (Own fault) = m.early fault
is_early m (Failed object) = fails_early object
is_early m NoMemory = false

-- Ok with its lines, Ok with the lines of what deviates, that the archive has no such file, or a refusal
pub data Ending (F : Type 0) : Type 0 where
  finished : (lines : Text) → Ending F
  deviating : (lines : Text) (count : ℕ) → Ending F
  absent : (name : Text) → Ending F
  refused : (fault : Fault F) → Ending F

abbrev pub status : {F : Type 0} → Meaning F → Ending F → ℕ
status m (finished lines) = 0
status m (deviating lines count) = 65
status m (absent name) = 1
status m (refused fault) = status_of m fault

abbrev pub reached_of : {F : Type 0} → Meaning F → Ending F → Reached
reached_of m (finished lines) = to_end
reached_of m (deviating lines count) = to_end
reached_of m (absent name) = turned_back
reached_of m (refused fault) = back_if (is_early m fault)

abbrev pub ending_of : {F : Type 0} → Result Outcome (Fault F) → Ending F
ending_of (Ok (Finished lines)) = finished (string_bytes lines)
ending_of (Ok (FindingsFound lines count)) = deviating (string_bytes lines) count
ending_of (Ok (Absent name)) = absent (string_bytes name)
ending_of (Err fault) = refused fault

abbrev pub message_of : {F : Type 0} → Meaning F → Fault F → Text
message_of m (Stage fault) = stage_message fault
message_of m (Own fault) = m.message fault
message_of m (Failed object) = object_message object
message_of m NoMemory = codes "out of memory"

-- three digits
abbrev pub digits : ℕ → Text
digits n = (48 + n / 100) ∷ (48 + n / 10 % 10) ∷ (48 + n % 10) ∷ []

-- a line with the status and the message
abbrev pub line_of : ℕ → Text → Text
line_of number message = codes "ERROR: [" ++ (digits number ++ (codes "]: " ++ (message ++ codes "\n")))

-- the output failed
abbrev pub is_output : {F : Type 0} → Fault F → Bool
is_output (Failed Output) = true
is_output other = false

-- the last line of the output: where the output failed there is none
abbrev pub fault_line : {F : Type 0} → Meaning F → Fault F → Text
fault_line m fault = if is_output fault then [] else line_of (status_of m fault) (message_of m fault)

-- the lines before it
abbrev pub lines_before : {F : Type 0} → Meaning F → Fault F → Text
lines_before m (Own fault) = m.lines fault
lines_before m other = []

-- a line a finding, and how many there are
abbrev pub deviating_lines : Text → ℕ → Text
deviating_lines lines count = lines ++ line_of 65 (decimal count ++ codes " findings")

-- what is known where the archive has no such file
abbrev pub absent_line : Text → Text
absent_line name = codes "INFO: unable to find " ++ (name ++ codes " in the archive\n")

-- the warning of a key that is no option
abbrev pub unknown_line : Text → Text
unknown_line key = codes "WARN: configuration file contains unknown option '" ++ (shown key ++ codes "'\n")

abbrev pub ending_lines : {F : Type 0} → Meaning F → Ending F → Text
ending_lines m (finished lines) = lines
ending_lines m (deviating lines count) = deviating_lines lines count
ending_lines m (absent name) = absent_line name
ending_lines m (refused fault) = lines_before m fault ++ fault_line m fault

-- what is written: the keys of the configuration that are no options, and then how it ended
abbrev pub lines_of : {F : Type 0} → Meaning F → List Text → Ending F → Text
lines_of m unknown ending = flat_map unknown_line unknown ++ ending_lines m ending

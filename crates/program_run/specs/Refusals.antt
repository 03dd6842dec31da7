-- Arguments, or a configuration, that are refused: the status and the lines (own).
use Rattle.std.specs.Prelude.{◌≡◌, ◌++◌, ℕ, List, codes, decimal, string_bytes}
use Rattle.std.specs.List.{flat_map}
use Rattle.base_devices.specs.declared.device_error.DeviceError.{DeviceError}
use Rattle.base_devices.specs.declared.device_error.DeviceError.TheVariants.{Failed as DeviceFailed, NoMemory as DeviceMemory}
use Rattle.base_model.specs.Text.{Text}
use Rattle.options_read.specs.declared.usage.Usage.{Usage}
use Rattle.options_read.specs.declared.usage.Usage.TheVariants.{CommandMissing, CommandUnknown, OptionUnknown, OptionRepeated, OptionValue, OptionMissing, OptionNotFor, ConfigSyntax, ParameterCount, ParameterUtf8, NoMemory as UsageMemory}
use Rattle.cmd_types.specs.declared.stages.object.Object.TheVariants.{Config}
use Rattle.cmd_types.specs.StagesTexts.{shown, object_status, object_message, stage_status, stage_message}
use Rattle.cmd_trait.specs.declared.fault.Fault.{Fault}
use Rattle.cmd_trait.specs.declared.fault.Fault.TheVariants.{Stage, Own, Failed, NoMemory}
use Rattle.cmd_trait.specs.Ends.{line_of, unknown_line}

-- the fault that a refusal becomes
-- the fault that a refusal becomes
-- the fault that a refusal becomes
abbrev pub of_usage : Usage → Fault Usage
of_usage UsageMemory = NoMemory
of_usage usage = Own usage

-- a failed call of the configuration
abbrev pub of_device : DeviceError → Fault Usage
of_device DeviceFailed = Failed Config
of_device DeviceMemory = NoMemory

abbrev pub usage_status : Usage → ℕ
usage_status CommandMissing = 2
usage_status (CommandUnknown word) = 3
usage_status (OptionUnknown word) = 4
usage_status (OptionRepeated name) = 5
usage_status (OptionValue name) = 6
usage_status (OptionMissing name) = 7
usage_status (OptionNotFor name) = 8
usage_status (ConfigSyntax line) = 9
usage_status (ParameterCount given) = 11
usage_status ParameterUtf8 = 13
usage_status UsageMemory = 90

abbrev pub refusal_status : Fault Usage → ℕ
refusal_status (Stage fault) = stage_status fault
refusal_status (Own usage) = usage_status usage
refusal_status (Failed object) = object_status object
refusal_status NoMemory = 90

abbrev pub usage_message : Usage → Text
usage_message CommandMissing = codes "no command found"
usage_message (CommandUnknown word) = codes "unknown command '" ++ (shown (string_bytes word) ++ codes "'")
usage_message (OptionUnknown word) = codes "unknown option '" ++ (shown (string_bytes word) ++ codes "'")
usage_message (OptionRepeated name) = codes "option '" ++ (shown (string_bytes name) ++ codes "' is repeated")
usage_message (OptionValue name) = codes "option '" ++ (shown (string_bytes name) ++ codes "' has no valid value")
usage_message (OptionMissing name) = codes "option '" ++ (shown (string_bytes name) ++ codes "' is missing")
usage_message (OptionNotFor name) = codes "option '" ++ (shown (string_bytes name) ++ codes "' is not for this command")
usage_message (ConfigSyntax line) = codes "configuration line " ++ (decimal line ++ codes " is not valid")
usage_message (ParameterCount given) = decimal given ++ codes " parameters given"
usage_message ParameterUtf8 = codes "configuration is not UTF-8"
usage_message UsageMemory = codes "out of memory"

abbrev pub refusal_message : Fault Usage → Text
refusal_message (Stage fault) = stage_message fault
refusal_message (Own usage) = usage_message usage
refusal_message (Failed object) = object_message object
refusal_message NoMemory = codes "out of memory"

-- the warnings of the configuration's keys that are no options, and then the line of the refusal
abbrev pub refusal_lines : List Text → Fault Usage → Text
refusal_lines unknown fault =
    flat_map unknown_line unknown ++ line_of (refusal_status fault) (refusal_message fault)

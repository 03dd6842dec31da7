-- Why the arguments and their configuration give no command.
use Rattle.std.specs.Prelude.{◌≡◌, ◌⊎◌, ◌<◌, ℕ, List, length, map, Vec, String, Option, None, option_map, Result, Ok, IfSome, IsSomeAnd, string_bytes}
use Rattle.std.specs.declared.alloc.Global.{Global}
use Rattle.base_devices.specs.Cause.{Rises}
use Rattle.base_devices.specs.Content.{Content}
use Rattle.base_devices.specs.States.{InputState}
use Rattle.base_model.specs.Text.{Text}
use Rattle.options_read.specs.Faults.{Fault as Refusal}
use Rattle.options_read.specs.Paths.{Path, nowhere, usual, named, path_of_arguments}
use Rattle.options_read.specs.Settings.{Resolved}
use Rattle.options_read.specs.Views.{Fails}
use Rattle.options_read.specs.declared.resolve.Command.{Command as GivenCommand}
use Rattle.options_read.specs.Commands.{IsCommand}
use Rattle.cmd_types.specs.declared.stages.object.Object.TheVariants.{Config}
use Rattle.cmd_types.specs.declared.stages.fault.StageFault.{StageFault}
use Rattle.cmd_types.specs.declared.stages.fault.StageFault.TheVariants.{ConfigMissing, ConfigLong}
use Rattle.options_read.specs.declared.usage.Usage.{Usage}
use Rattle.cmd_trait.specs.declared.fault.Fault.{Fault}
use Rattle.cmd_trait.specs.declared.fault.Fault.TheVariants.{Stage, Own, Failed, NoMemory}
use Rattle.program_run.specs.Asked.{config_limit, MayHave, ArgumentsResolve}

-- the path of a configuration that is read
abbrev pub IsPathOf : Path → Text → Type 0
IsPathOf nowhere path = ⊥
IsPathOf (usual text) path = path ≡ text
IsPathOf (named text) path = path ≡ text

-- what is found at the path is what the source has there
abbrev pub IsFileOf : Text → InputState → Option (Vec ℕ Global) → Type 0
IsFileOf path source found = IfSome source.files (λ f. option_map (λ (v : Vec ℕ Global). v.items) found ≡ f path)

-- the bytes may be those of the configuration that the arguments name
abbrev pub IsConfigurationOf : List (String Global) → InputState → Vec ℕ Global → Type 0
IsConfigurationOf arguments source v = (path : Path) × (path_of_arguments (map string_bytes arguments) ≡ Ok path)
    × MayHave source.files path v.items

-- the arguments say that no configuration is read
abbrev pub NamesNone : List (String Global) → Type 0
NamesNone arguments = path_of_arguments (map string_bytes arguments) ≡ Ok nowhere

-- the command is that to which the arguments resolve with the source's configuration
abbrev pub IsCommandOf : List (String Global) → InputState → GivenCommand → Type 0
IsCommandOf arguments source c = (s : Resolved) × ArgumentsResolve (map string_bytes arguments) source.files (Ok s)
    × IsCommand c s

-- a file at this path is too long, or its source failed
abbrev pub SourceCause : Text → ℕ → Option Content → Type 0 → Fault Usage → Type 0
SourceCause path limit files rose (Own usage) = ⊥
SourceCause path limit files rose (Stage (ConfigLong name most)) = (string_bytes name ≡ path) × (most ≡ limit)
    × IfSome files (λ f. IsSomeAnd (f path) (λ b. limit < length b))
SourceCause path limit files rose (Stage other) = ⊥
SourceCause path limit files rose (Failed object) = (object ≡ Config) × rose
SourceCause path limit files rose NoMemory = Unit {0}

-- a configuration that is named isn't there, or one that is read is too long
abbrev pub FileCause : List Text → Option Content → StageFault → Type 0
FileCause arguments files (ConfigMissing path) = (path_of_arguments arguments ≡ Ok (named (string_bytes path)))
    × IfSome files (λ f. f (string_bytes path) ≡ None)
FileCause arguments files (ConfigLong path most) = (p : Path) × (path_of_arguments arguments ≡ Ok p)
    × IsPathOf p (string_bytes path) × (most ≡ config_limit)
    × IfSome files (λ f. IsSomeAnd (f (string_bytes path)) (λ b. config_limit < length b))
FileCause arguments files other = ⊥

-- what the arguments say of the configuration is refused, or what the two resolve to is, or the configuration can't be
-- had
abbrev pub ConfigCause : List Text → Option Content → Type 0 → Fault Usage → Type 0
ConfigCause arguments files rose (Own usage) = Fails usage (path_of_arguments arguments)
    ⊎ ((read : Result Resolved Refusal) × ArgumentsResolve arguments files read × Fails usage read)
ConfigCause arguments files rose (Stage fault) = FileCause arguments files fault
ConfigCause arguments files rose (Failed object) = (object ≡ Config) × rose
ConfigCause arguments files rose NoMemory = Unit {0}

-- ---- by what is known of the source before and after

-- why no file is read
abbrev pub FileReadCause : Text → ℕ → InputState → InputState → Fault Usage → Type 0
FileReadCause path limit old new = SourceCause path limit old.files (Rises old.faults new.faults)

-- why no configuration is read, or no command
abbrev pub ReadingCause : List (String Global) → InputState → InputState → Fault Usage → Type 0
ReadingCause arguments old new = ConfigCause (map string_bytes arguments) old.files (Rises old.faults new.faults)

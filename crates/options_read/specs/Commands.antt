-- The command that was resolved.
use Rattle.std.specs.Prelude.{◌≡◌, map, string_bytes, Result, Ok, Err}
use Rattle.options_read.specs.declared.resolve.Resolved as code
use Rattle.options_read.specs.declared.resolve.Command.{Command}
use Rattle.options_read.specs.declared.usage.Usage.{Usage}
use Rattle.options_read.specs.Faults.{Fault}
use Rattle.options_read.specs.Filled.{AreOptions}
use Rattle.options_read.specs.Settings.{Resolved}
use Rattle.options_read.specs.Sources.{source_view}
use Rattle.options_read.specs.Views.{Fails}

-- what a resolved command of the code represents
abbrev pub settled_view : code.Resolved → Resolved
settled_view s = record {
  stanza = string_bytes s.stanza;
  parameters = map string_bytes s.parameters.items;
  source = source_view s.source;
  warnings = map string_bytes s.warnings.items;
}

-- the command has the verb, the texts and the values in force of what was resolved
pub record IsCommand (c : Command) (s : Resolved) : Type 0 where
  pub verb : c.verb ≡ s.source.verb
  pub stanza : string_bytes c.stanza ≡ s.stanza
  pub given : map string_bytes c.given.items ≡ s.parameters
  pub options : AreOptions c.options s.source
  pub warnings : map string_bytes c.warnings.items ≡ s.warnings

-- the command is the one that is resolved, and a fault is its fault
abbrev pub GivesCommand : Result Command Usage → Result Resolved Fault → Type 0
GivesCommand (Ok c) read = (s : Resolved) × (read ≡ Ok s) × IsCommand c s
GivesCommand (Err e) read = Fails e read

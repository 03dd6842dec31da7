-- The source that the code's source represents.
use Rattle.std.specs.Prelude.{List, map, String, string_bytes}
use Rattle.std.specs.declared.alloc.Global.{Global}
use Rattle.repo_ini.specs.declared.config.ConfigLine.{ConfigLine}
use Rattle.repo_ini.specs.Views.{settings_of}
use Rattle.options_read.specs.declared.source.Source as code
use Rattle.options_table.specs.declared.table.Opt.{Opt}
use Rattle.options_table.specs.declared.table.Verb.{Verb}
use Rattle.options_read.specs.declared.arguments.Given.{Given}
use Rattle.options_read.specs.Settings.{Source, source_of}
use Rattle.options_read.specs.Views.{given_view, texts}

-- what the sources of options in the code represent
abbrev pub source_view : code.Source → Source
source_view s = record {
  verb = s.verb;
  given = map given_view s.given.items;
  settings = settings_of s.lines.items;
  sections = map string_bytes s.sections.items;
}

-- the source of a command's options, of what the arguments give and these lines of the configuration
abbrev pub source_from : List Opt → Verb → List Given → List (String Global) → List ConfigLine → Source
source_from table verb given sections lines =
    source_of table verb (map given_view given) (texts sections) (settings_of lines)

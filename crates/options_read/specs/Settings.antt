-- The value in force of each option, and the first fault of the arguments and the configuration.
use Rattle.std.specs.Prelude.{ℕ, ◌&&◌, ◌||◌, unwrap_or, ◌==◌, not, Bool, true, false, min, List, [], ◌∷◌, ◌++◌, length, map, codes, bytes_eq, is_some, is_none, Option, Some, None, option_map, option_and_then, Result, Ok, Err, if◌then◌else◌}
use Rattle.std.specs.List.{list_any, filter, find}
use Rattle.std.specs.Str.{is_utf8}
use Rattle.std.specs.Option.{option_map_or, option_or}
use Rattle.base_model.specs.Text.{Text}
use Rattle.repo_ini.specs.Config.{Setting}
use Rattle.repo_ini.specs.Config as config
use Rattle.options_table.specs.declared.table.TheConstants.{TABLE, VERBS}
use Rattle.options_table.specs.declared.table.Opt.{Opt}
use Rattle.options_table.specs.declared.table.Opt.TheVariants.{RestoreType}
use Rattle.options_table.specs.declared.table.Place.{Place}
use Rattle.options_table.specs.declared.table.Place.TheVariants.{CommandLine, Anywhere}
use Rattle.options_table.specs.declared.table.Verb.{Verb}
use Rattle.options_table.specs.declared.table.Verb.TheVariants.{StanzaCreate, StanzaUpgrade, ArchivePush, ArchivePushAsync, ArchiveGet, ArchiveGetAsync, Backup, Expire, Restore, Verify, Info, Rehearse}
use Rattle.options_read.specs.Faults.{Fault, command_missing, command_unknown, option_repeated, option_value, option_missing, option_not_for, config_syntax, parameter_count, parameter_utf8, ◌>>=◌}
use Rattle.options_table.specs.Table.{row, verb_word, is_for, fallback_text, is_required, types_of}
use Rattle.options_table.specs.Values.{Value, value_of}
use Rattle.options_read.specs.Words.{Words, read_arguments, is_single}

-- ---- the value in force

-- where the values of a command's options come from
pub record Source : Type 0 where
  pub verb : Verb
  -- the options of the arguments, with their values
  pub given : List (Text × Text)
  -- the settings of the configuration that count
  pub settings : List Setting
  -- the sections that count, the strongest first
  pub sections : List Text

abbrev pub value_given : List (Text × Text) → Text → Option Text
value_given given name = option_map (λ g. g.1) (find (λ g. bytes_eq g.0 name) given)

abbrev pub value_in : List Setting → Text → Text → Option Text
value_in settings section key = option_map (λ s. s.value)
    (find (λ s. bytes_eq s.section section && bytes_eq s.key key) settings)

-- the value of the strongest section that has the key
abbrev pub value_among : List Setting → List Text → Text → Option Text
value_among settings [] key = None
value_among settings (s ∷ ss) key = option_or (value_in settings s key) (value_among settings ss key)

abbrev pub value_configured : Place → Source → Text → Option Text
value_configured CommandLine s name = None
value_configured Anywhere s name = value_among s.settings s.sections name

-- what the arguments state, or else the configuration, where the command has the option
abbrev pub stated : Source → Opt → Option Text
stated s o = if is_for s.verb o then option_or (value_given s.given (row o).name)
    (value_configured (row o).place s (row o).name) else None

-- the type of restore in force
abbrev pub type_in : Source → Text
type_in s = unwrap_or (option_or (stated s RestoreType) (fallback_text (row RestoreType).fallback)) []

-- the option isn't bound to other types of restore than the one in force
abbrev pub suits : Source → Opt → Bool
suits s o = (length (types_of o) == 0) || list_any (λ t. bytes_eq t (type_in s)) (types_of o)

-- the text in force: what is given, or else the default; none of an option that is bound to other types of restore
unfoldable pub in_force : Source → Opt → Option Text
in_force s o = if suits s o then option_or (stated s o) (fallback_text (row o).fallback) else None

-- the value in force
unfoldable pub value : Source → Opt → Option Value
value s o = option_and_then (value_of (row o).kind) (in_force s o)

-- all of the first list, or else of the second
abbrev pub or_those : List Text → List Text → List Text
or_those [] others = others
or_those (t ∷ ts) others = t ∷ ts

-- all values that the arguments give an option, in their order
abbrev pub all_given : List (Text × Text) → Text → List Text
all_given given name = map (λ g. g.1) (filter (λ g. bytes_eq g.0 name) given)

abbrev pub all_in : List Setting → Text → Text → List Text
all_in settings section key = map (λ s. s.value) (filter (λ s. bytes_eq s.section section && bytes_eq s.key key) settings)

-- all of the strongest section that has the key
abbrev pub all_among : List Setting → List Text → Text → List Text
all_among settings [] key = []
all_among settings (s ∷ ss) key = or_those (all_in settings s key) (all_among settings ss key)

abbrev pub all_configured : Place → Source → Text → List Text
all_configured CommandLine s name = []
all_configured Anywhere s name = all_among s.settings s.sections name

-- all that is in force of an option that may be given more than once: what the arguments state, or else the
-- configuration, where the command has the option, and the type of restore too
unfoldable pub stated_all : Source → Opt → List Text
stated_all s o = if is_for s.verb o && suits s o then or_those (all_given s.given (row o).name)
    (all_configured (row o).place s (row o).name) else []

-- what the arguments say of an option, whatever the configuration says
abbrev pub argument : Source → Opt → Option Text
argument s o = value_given s.given (row o).name

-- ---- the rules, in the order in which their faults are reported

-- the fault of the first that fails, where one does
abbrev pub refused : {A : Type 0} → (A → Bool) → (A → Fault) → List A → Result (Unit {0}) Fault
refused fails fault xs = option_map_or (λ x. Err (fault x)) (find fails xs) (Ok tt)

abbrev pub verb_named : List Verb → Text → Result Verb Fault
verb_named verbs word = option_map_or (λ v. Ok v) (find (λ v. bytes_eq (verb_word v) word) verbs)
    (Err (command_unknown word))

abbrev pub command_of : List Verb → Option Text → Result Verb Fault
command_of verbs None = Err command_missing
command_of verbs (Some word) = verb_named verbs word

abbrev pub is_known_for : List Opt → Verb → Text → Bool
is_known_for table verb name = list_any (λ o. bytes_eq (row o).name name && is_for verb o) table

abbrev pub each_is_for : List Opt → Verb → List (Text × Text) → Result (Unit {0}) Fault
each_is_for table verb given = refused (λ g. not (is_known_for table verb g.0)) (λ g. option_not_for g.0) given

abbrev pub stanza_of : List (Text × Text) → Result Text Fault
stanza_of given = option_map_or (λ s. Ok s) (value_given given (codes "stanza")) (Err (option_missing (codes "stanza")))

abbrev pub utf8_of : Text → Result (Unit {0}) Fault
utf8_of bytes = if is_utf8 bytes then Ok tt else Err parameter_utf8

abbrev pub syntax_of : {A : Type 0} → Result A ℕ → Result A Fault
syntax_of (Ok x) = Ok x
syntax_of (Err line) = Err (config_syntax line)

abbrev pub is_known : List Opt → Text → Bool
is_known table name = list_any (λ o. bytes_eq (row o).name name) table

abbrev pub is_set : List Setting → Text → Text → Bool
is_set settings section key = list_any (λ s. bytes_eq s.section section && bytes_eq s.key key) settings

-- no section has a key twice that it may have once alone; the first list is what comes before the second
abbrev pub none_twice : List Opt → List Setting → List Setting → Result (Unit {0}) Fault
none_twice table before [] = Ok tt
none_twice table before (s ∷ ss) = if is_single table s.key
    && is_set before s.section s.key then Err (option_repeated s.key) else none_twice table (before ++ s ∷ []) ss

-- what is in force is none of the option's values, or one of all that are stated isn't
abbrev pub is_wrong : Source → Opt → Bool
is_wrong s o = (is_some (in_force s o) && is_none (value s o))
    || list_any (λ t. is_none (value_of (row o).kind t)) (stated_all s o)

abbrev pub none_wrong : Source → List Opt → Result (Unit {0}) Fault
none_wrong s table = refused (is_wrong s) (λ o. option_value (row o).name) table

abbrev pub is_lacking : Source → Opt → Bool
is_lacking s o = is_for s.verb o && suits s o && is_required (row o).fallback && is_none (in_force s o)

abbrev pub none_lacking : Source → List Opt → Result (Unit {0}) Fault
none_lacking s table = refused (is_lacking s) (λ o. option_missing (row o).name) table

-- the arguments have an option of this name that the command has, for the type in force
abbrev pub is_suited : Source → List Opt → Text → Bool
is_suited s table name = list_any (λ o. bytes_eq (row o).name name && is_for s.verb o && suits s o) table

abbrev pub each_suits : Source → List Opt → List (Text × Text) → Result (Unit {0}) Fault
each_suits s table given = refused (λ g. not (is_suited s table g.0)) (λ g. option_not_for g.0) given

-- how many parameters a command has
abbrev pub parameters_for : Verb → ℕ
parameters_for StanzaCreate = 0
parameters_for StanzaUpgrade = 0
parameters_for ArchivePush = 1
parameters_for ArchivePushAsync = 0
parameters_for ArchiveGet = 2
parameters_for ArchiveGetAsync = 1
parameters_for Backup = 0
parameters_for Expire = 0
parameters_for Restore = 0
parameters_for Verify = 0
parameters_for Info = 0
parameters_for Rehearse = 0

abbrev pub count_of : Verb → ℕ → Result (Unit {0}) Fault
count_of verb n = if n == parameters_for verb then Ok tt else Err (parameter_count (min n 4294967295))

-- ---- what the configuration gives a command

-- the name of a command in sections; the asynchronous forms have that of the other form
abbrev pub section_word : Verb → Text
section_word StanzaCreate = codes "stanza-create"
section_word StanzaUpgrade = codes "stanza-upgrade"
section_word ArchivePush = codes "archive-push"
section_word ArchivePushAsync = codes "archive-push"
section_word ArchiveGet = codes "archive-get"
section_word ArchiveGetAsync = codes "archive-get"
section_word Backup = codes "backup"
section_word Expire = codes "expire"
section_word Restore = codes "restore"
section_word Verify = codes "verify"
section_word Info = codes "info"
section_word Rehearse = codes "rehearse"

-- the section of a command under a name, and that of all commands
abbrev pub sections_under : Text → Text → List Text
sections_under name word = (name ++ codes ":" ++ word) ∷ name ∷ []

-- the sections that count, the strongest first
unfoldable pub sections_of : Text → Verb → List Text
sections_of stanza verb = (stanza ++ codes ":" ++ section_word verb) ∷ stanza ∷ (codes "global:" ++ section_word verb)
    ∷ codes "global" ∷ []

abbrev pub counts : List Text → Text → Bool
counts sections section = list_any (λ s. bytes_eq s section) sections

-- the settings that count: known keys, in sections that count
unfoldable pub known_settings : List Opt → List Text → List Setting → List Setting
known_settings table sections settings = filter (λ s. counts sections s.section && is_known table s.key) settings

-- the keys of sections that count that no option has
unfoldable pub unknown_keys : List Opt → List Text → List Setting → List Text
unknown_keys table sections settings =
    map (λ s. s.key) (filter (λ s. counts sections s.section && not (is_known table s.key)) settings)

-- ---- the command

-- a command whose options all have a value, and from what it is made
pub record Resolved : Type 0 where
  pub stanza : Text
  pub parameters : List Text
  pub source : Source
  -- unknown keys of the configuration
  pub warnings : List Text

abbrev pub source_of : List Opt → Verb → List (Text × Text) → List Text → List Setting → Source
source_of table verb given sections settings =
    record { verb = verb; given = given; settings = known_settings table sections settings; sections = sections }

abbrev pub settled : List Opt → Text → Words → Source → List Setting → Resolved
settled table stanza arguments source settings =
    record {
      stanza = stanza;
      parameters = arguments.parameters;
      source = source;
      warnings = unknown_keys table source.sections settings;
    }

-- the settings of a configuration, or its first fault: of its form, or a key that occurs twice in a section
unfoldable pub configured : List Opt → Text → Result (List Setting) Fault
configured table bytes = do
  utf8 ← utf8_of bytes
  settings ← syntax_of (config.settings bytes)
  once ← none_twice table [] settings
  Ok settings

-- whether the values in force and the number of parameters are right, or their first fault
unfoldable pub accepted : Source → List Opt → ℕ → Result (Unit {0}) Fault
accepted source table count = do
  right ← none_wrong source table
  there ← none_lacking source table
  suited ← each_suits source table source.given
  count_of source.verb count

-- what the arguments and the configuration ask for with these commands and options, or their first fault
unfoldable pub resolve : List Verb → List Opt → List Text → Text → Result Resolved Fault
resolve verbs table arguments bytes = do
  read ← read_arguments table arguments
  verb ← command_of verbs read.command
  for_it ← each_is_for table verb read.given
  stanza ← stanza_of read.given
  settings ← configured table bytes
  right ← accepted (source_of table verb read.given (sections_of stanza verb) settings) table (length read.parameters)
  Ok (settled table stanza read (source_of table verb read.given (sections_of stanza verb) settings) settings)

-- what the arguments and the configuration ask for, or their first fault
unfoldable pub resolved_arguments : List Text → Text → Result Resolved Fault
resolved_arguments arguments bytes = resolve VERBS TABLE arguments bytes

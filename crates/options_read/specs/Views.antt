-- What the code's values represent.
use Rattle.std.specs.Prelude.{◌≡◌, ℕ, List, map, Option, option_map, String, string_bytes, Result, Ok, Err}
use Rattle.std.specs.Borrow.{Bor}
use Rattle.std.specs.declared.alloc.Global.{Global}
use Rattle.base_model.specs.Text.{Text}
use Rattle.options_read.specs.declared.arguments.Style as code_style
use Rattle.options_read.specs.declared.arguments.Style.TheVariants as styles
use Rattle.options_read.specs.declared.arguments.Token as code_token
use Rattle.options_read.specs.declared.arguments.Token.TheVariants as tokens
use Rattle.options_read.specs.declared.arguments.Shape as code_shape
use Rattle.options_read.specs.declared.arguments.Shape.TheVariants as shapes
use Rattle.options_read.specs.declared.arguments.Given as code_given
use Rattle.options_read.specs.declared.arguments.Words as code_arguments
use Rattle.options_read.specs.declared.usage.Usage.{Usage}
use Rattle.options_read.specs.declared.usage.Usage.TheVariants as usages
use Rattle.options_read.specs.Faults.{Fault, command_missing, command_unknown, option_unknown, option_repeated, option_value, option_missing, option_not_for, config_syntax, parameter_count, parameter_utf8}
use Rattle.options_read.specs.Words.{Style, switch, valued, deniable, Token, unknown, gives, denies, plain, Shape, done, wants, Words}
use Rattle.options_read.specs.declared.path.ConfigPath.{ConfigPath}
use Rattle.options_read.specs.declared.path.ConfigPath.TheVariants as paths
use Rattle.options_read.specs.Paths.{Path, nowhere, usual, named}

-- what the arguments of the code represent
abbrev pub style_view : code_style.Style → Style
style_view styles.Switch = switch
style_view styles.Valued = valued
style_view styles.Deniable = deniable

abbrev pub token_view : code_token.Token → Token
token_view (tokens.Unknown word) = unknown word.now
token_view (tokens.Gives name value) = gives name.now value.now
token_view (tokens.Denies name) = denies name.now
token_view (tokens.Plain word) = plain word.now

abbrev pub shape_view : code_shape.Shape → Shape
shape_view (shapes.Done t) = done (token_view t)
shape_view (shapes.Wants name) = wants name.now

abbrev pub given_view : code_given.Given → List ℕ × List ℕ
given_view g = (string_bytes g.name, string_bytes g.value)

abbrev pub arguments_view : code_arguments.Words → Words
arguments_view w = record {
  command = option_map string_bytes w.command;
  parameters = map string_bytes w.parameters.items;
  given = map given_view w.given.items;
}

abbrev pub path_view : ConfigPath → Path
path_view paths.Nowhere = nowhere
path_view (paths.Usual place) = usual (string_bytes place)
path_view (paths.Named place) = named (string_bytes place)

-- the path that was found so far
abbrev pub path_so_far : Option ConfigPath → Option Path
path_so_far found = option_map path_view found

-- what each of the strings has
abbrev pub texts : List (String Global) → List Text
texts strings = map string_bytes strings

-- what each of the borrowed texts has
abbrev pub shown : List (Bor Text) → List Text
shown borrowed = map (λ t. t.now) borrowed

-- the fault is the definition's, unless memory ran out
abbrev pub Fails : {Y : Type 0} → Usage → Result Y Fault → Type 0
Fails usages.NoMemory read = Unit {0}
Fails usages.CommandMissing read = read ≡ Err command_missing
Fails (usages.CommandUnknown word) read = read ≡ Err (command_unknown (string_bytes word))
Fails (usages.OptionUnknown word) read = read ≡ Err (option_unknown (string_bytes word))
Fails (usages.OptionRepeated name) read = read ≡ Err (option_repeated (string_bytes name))
Fails (usages.OptionValue name) read = read ≡ Err (option_value (string_bytes name))
Fails (usages.OptionMissing name) read = read ≡ Err (option_missing (string_bytes name))
Fails (usages.OptionNotFor name) read = read ≡ Err (option_not_for (string_bytes name))
Fails (usages.ConfigSyntax line) read = read ≡ Err (config_syntax line)
Fails (usages.ParameterCount given) read = read ≡ Err (parameter_count given)
Fails usages.ParameterUtf8 read = read ≡ Err parameter_utf8

-- the result is the definition's, unless memory ran out
abbrev pub Gives : {X Y : Type 0} → (X → Y) → Result X Usage → Result Y Fault → Type 0
Gives view (Ok x) read = read ≡ Ok (view x)
Gives view (Err e) read = Fails e read

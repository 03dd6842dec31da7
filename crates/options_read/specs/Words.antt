-- The arguments of a command line: options, the command, its parameters.
use Rattle.std.specs.Prelude.{◌==◌, ◌&&◌, nat_eq, nat_le, Bool, true, not, List, [], ◌∷◌, ◌++◌, length, drop, codes, bytes_eq, Option, Some, None, option_map, Result, Ok, Err, if◌then◌else◌}
use Rattle.base_model.specs.Text.{Text}
use Rattle.std.specs.List.{list_any, find, starts_with}
use Rattle.std.specs.Option.{option_map_or}
use Rattle.options_table.specs.declared.table.Opt.{Opt}
use Rattle.options_table.specs.Table as table
use Rattle.options_table.specs.Table.{OptionKind, row, is_repeatable}
use Rattle.options_table.specs.Values.{split_equals}
use Rattle.options_read.specs.Faults.{Fault, option_unknown, option_repeated, option_value, ◌>>=◌}

-- how an option takes its value: as --x and --no-x, from an argument, or from an argument or as --no-x
pub data Style : Type 0 where
  switch : Style
  valued : Style
  deniable : Style

abbrev pub style_of : OptionKind → Style
style_of table.stanza = valued
style_of table.path = valued
style_of table.text = valued
style_of table.anything = valued
style_of table.file = deniable
style_of (table.number least most) = valued
style_of (table.size least most) = valued
style_of (table.time least most) = valued
style_of table.flag = switch
style_of (table.words allowed) = valued
style_of (table.words_or allowed least most) = valued
style_of table.setting = valued

-- the style of the options of this name, where there are some
abbrev pub style_named : List Opt → Text → Option Style
style_named table name = option_map (λ o. style_of (row o).kind) (find (λ o. bytes_eq (row o).name name) table)

-- what one or two arguments say: an argument that begins with `-` and is no option; an option with its value;
-- `--no-config`; any other argument
pub data Token : Type 0 where
  unknown : (word : Text) → Token
  gives : (name value : Text) → Token
  denies : (name : Text) → Token
  plain : (word : Text) → Token

-- a whole token, or an option whose value is the next argument
pub data Shape : Type 0 where
  done : Token → Shape
  wants : (name : Text) → Shape

-- the text after the prefix, where it begins so
abbrev pub after_prefix : Text → Text → Option Text
after_prefix prefix t = if starts_with nat_eq t prefix then Some (drop (length prefix) t) else None

-- an argument that names an option and a value: `--name=value`
abbrev pub given_shape : Option Style → Text → Text → Text → Shape
given_shape None word name value = done (unknown word)
given_shape (Some s) word name value = done (gives name value)

-- an argument that denies an option: `--no-name`
abbrev pub denied_shape : Option Style → Text → Text → Shape
denied_shape (Some switch) word name = done (gives name (codes "n"))
denied_shape (Some deniable) word name = done (denies name)
denied_shape (Some valued) word name = done (unknown word)
denied_shape None word name = done (unknown word)

abbrev pub other_shape : List Opt → Text → Text → Shape
other_shape table word body = option_map_or (λ name. denied_shape (style_named table name) word name)
    (after_prefix (codes "no-") body) (done (unknown word))

-- an argument that names an option alone: `--name`; and any argument that begins with two dashes
abbrev pub bare_shape : Option Style → List Opt → Text → Text → Shape
bare_shape (Some switch) table word body = done (gives body (codes "y"))
bare_shape (Some deniable) table word body = wants body
bare_shape (Some valued) table word body = wants body
bare_shape None table word body = other_shape table word body

abbrev pub option_shape : List Opt → Text → Text → Shape
option_shape table word body = option_map_or (λ p. given_shape (style_named table p.0) word p.0 p.1) (split_equals body)
    (bare_shape (style_named table body) table word body)

-- no `-` is in front
abbrev pub is_plain : Text → Bool
is_plain [] = true
is_plain (b ∷ bs) = not (b == 45)

-- what comes after `--`, where something does
abbrev pub body_of : Text → Option Text
body_of word = if nat_le (length word) 2 then None else after_prefix (codes "--") word

-- what an argument says by itself
abbrev pub shape : List Opt → Text → Shape
shape table word = if is_plain word then done (plain word) else option_map_or (option_shape table word) (body_of word)
    (done (unknown word))

abbrev pub shaped : Shape → (Option Text → List Token) → List Token
shaped (done t) rest = t ∷ rest None
shaped (wants name) rest = rest (Some name)

-- the tokens of the arguments, where an option waits for its value or none does; a missing value is an empty one
abbrev pub tokens_after : Option Text → List Opt → List Text → List Token
tokens_after None table [] = []
tokens_after (Some name) table [] = gives name [] ∷ []
tokens_after None table (w ∷ ws) = shaped (shape table w) (λ waits. tokens_after waits table ws)
tokens_after (Some name) table (w ∷ ws) = gives name w ∷ tokens_after None table ws

abbrev pub tokens : List Opt → List Text → List Token
tokens table words = tokens_after None table words

-- what the arguments say
pub record Words : Type 0 where
  pub command : Option Text
  pub parameters : List Text
  pub given : List (Text × Text)

abbrev pub no_arguments : Words
no_arguments = record { command = None; parameters = []; given = [] }

abbrev pub is_given : List (Text × Text) → Text → Bool
is_given given name = list_any (λ g. bytes_eq g.0 name) given

abbrev pub with_option : Words → Text → Text → Words
with_option w name value = record {
  command = w.command;
  parameters = w.parameters;
  given = w.given ++ (name, value) ∷ [];
}

-- the first plain argument is the command, the others are parameters
abbrev pub with_word : Words → Option Text → Text → Words
with_word w None word = record { command = Some word; parameters = w.parameters; given = w.given }
with_word w (Some c) word = record { command = Some c; parameters = w.parameters ++ word ∷ []; given = w.given }

-- the arguments, or a key in a section, may name this option once alone
abbrev pub is_single : List Opt → Text → Bool
is_single table name = list_any (λ o. bytes_eq (row o).name name && not (is_repeatable (row o).kind)) table

-- an option that may be there once alone is there before
abbrev pub is_again : List Opt → Words → Text → Bool
is_again table w name = is_single table name && is_given w.given name

-- the arguments with one more token, or its fault
abbrev pub add_token : List Opt → Words → Token → Result Words Fault
add_token table w (unknown word) = Err (option_unknown word)
add_token table w (gives name value) = if is_again table w name then Err (option_repeated name) else if length value
    == 0 then Err (option_value name) else Ok (with_option w name value)
add_token table w (denies name) = if is_again table w name then Err (option_repeated name) else Ok
    (with_option w name [])
add_token table w (plain word) = Ok (with_word w w.command word)

abbrev pub add_tokens : List Opt → Words → List Token → Result Words Fault
add_tokens table w [] = Ok w
add_tokens table w (t ∷ ts) = add_token table w t >>= λ v. add_tokens table v ts

abbrev pub read_arguments : List Opt → List Text → Result Words Fault
read_arguments table words = add_tokens table no_arguments (tokens table words)

-- What the code's values represent.
use Rattle.std.specs.Prelude.{ℕ, List, map}
use Rattle.options_table.specs.declared.table.Row as code_row
use Rattle.options_table.specs.declared.table.OptionKind as code_kind
use Rattle.options_table.specs.declared.table.OptionKind.TheVariants as kinds
use Rattle.options_table.specs.declared.table.Fallback as code_fallback
use Rattle.options_table.specs.declared.table.Fallback.TheVariants as fallbacks
use Rattle.options_table.specs.declared.value.Value as code_value
use Rattle.options_table.specs.declared.value.Value.TheVariants as held
use Rattle.options_table.specs.Table.{OptionKind, Fallback, Row, stanza, path, text, anything, file, number, size, time, flag, words, words_or, setting, required, unset, is}
use Rattle.options_table.specs.Values as values
use Rattle.options_table.specs.Values.{Value}

-- what the rows of the code's table of options represent
abbrev pub kind_view : code_kind.OptionKind → OptionKind
kind_view kinds.Stanza = stanza
kind_view kinds.Path = path
kind_view kinds.Text = text
kind_view kinds.Anything = anything
kind_view kinds.File = file
kind_view (kinds.Number least most) = number least most
kind_view (kinds.Size least most) = size least most
kind_view (kinds.Time least most) = time least most
kind_view kinds.Flag = flag
kind_view (kinds.Words allowed) = words (map (λ w. w.now) allowed.now)
kind_view (kinds.WordsOr allowed least most) = words_or (map (λ w. w.now) allowed.now) least most
kind_view kinds.Setting = setting

abbrev pub fallback_view : code_fallback.Fallback → Fallback
fallback_view fallbacks.Required = required
fallback_view fallbacks.Unset = unset
fallback_view (fallbacks.Is value) = is value.now

abbrev pub row_view : code_row.Row → Row
row_view r = record {
  name = r.name.now;
  commands = r.commands.now;
  place = r.place;
  kind = kind_view r.kind;
  fallback = fallback_view r.fallback;
}

abbrev pub value_view : code_value.Value → Value
value_view held.Absent = values.absent
value_view (held.Flag b) = values.flag b
value_view (held.Number n) = values.number n
value_view (held.Amount n) = values.amount_of n
value_view (held.Text t) = values.text t.now

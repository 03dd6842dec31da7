-- Lines of a text.
use Rattle.std.specs.Prelude.{◌≡◌, List, [], ◌∷◌, ◌++◌, map, flat_map, Vec, String, string_bytes}
use Rattle.std.specs.declared.alloc.Global.{Global}
use Rattle.base_model.specs.Text.{Text}

-- the lines of the code, by their bytes
abbrev pub texts_of : Vec (String Global) Global → List Text
texts_of lines = map string_bytes lines.items

-- these were added
abbrev pub AddsTexts : List Text → Vec (String Global) Global → Vec (String Global) Global → Type 0
AddsTexts more old new = texts_of new ≡ texts_of old ++ more

-- each line ends with a newline
unfoldable pub text_of_lines : List Text → Text
text_of_lines lines = flat_map (λ l. l ++ 10 ∷ []) lines

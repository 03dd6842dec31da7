-- The state that the code's state represents.
use Rattle.std.specs.Prelude.{List, Option, string_bytes}
use Rattle.std.specs.List.{AllByRecursion}
use Rattle.base_model.specs.Text.{Text}
use Rattle.repo_ini.specs.declared.part.Part.{Part}
use Rattle.repo_ini.specs.declared.state.State as held
use Rattle.repo_ini.specs.declared.state.State.TheVariants as code
use Rattle.repo_ini.specs.Parts.{keys_of, sections_of, NoFloats}
use Rattle.repo_ini.specs.Reading.{State, start, format, gap, between, within, check, closing, over, closed, more}

-- what the reader's state represents
abbrev pub state_of : held.State → State
state_of code.Start = start
state_of code.Format = format
state_of code.Gap = gap
state_of (code.Between done) = between (sections_of done.items)
state_of (code.Within done part) = within (sections_of done.items) (string_bytes part.name) (keys_of part)
state_of (code.Check done) = check (sections_of done.items)
state_of (code.Closing done known) = closing (sections_of done.items) known.0
state_of (code.Over done known) = over (sections_of done.items) known.0

-- the state once the section of this part ends
abbrev pub part_closed : List Part → Part → Option State
part_closed done part = closed (sections_of done) (string_bytes part.name) (keys_of part)

-- the state with one key more in the section of this part
abbrev pub part_with : List Part → Part → Text × Text → Option State
part_with done part key = more (sections_of done) (string_bytes part.name) (keys_of part) key

-- where the text has ended, its values have no float
abbrev pub EndsWhole : held.State → Type 0
EndsWhole code.Start = Unit {0}
EndsWhole code.Format = Unit {0}
EndsWhole code.Gap = Unit {0}
EndsWhole (code.Between done) = Unit {0}
EndsWhole (code.Within done part) = Unit {0}
EndsWhole (code.Check done) = Unit {0}
EndsWhole (code.Closing done known) = Unit {0}
EndsWhole (code.Over done known) = AllByRecursion (λ p. NoFloats p.keys.items) done.items

-- What is seen of a place.
use Rattle.std.specs.Prelude.{◌≡◌, ◌<◌, ℕ, Option, Some, None, length, string_bytes}
use Rattle.sha1.specs.Sha1.{sha1}
use Rattle.base_devices.specs.Content.{Value}
use Rattle.base_model.specs.Text.{Text}
use Rattle.cmd_verify.specs.declared.findings.place_sum.Lies.{Lies}
use Rattle.cmd_verify.specs.declared.findings.place_sum.Lies.TheVariants.{Nothing, Few, All}
use Rattle.cmd_verify.specs.declared.findings.finding.Mark.{Mark}
use Rattle.cmd_verify.specs.What.{What, kind_of, line_of}
use Rattle.cmd_verify.specs.Findings.{BytesDeviate, part}

-- so it lies from a place on, of this many bytes
abbrev pub LiesSo : Value → ℕ → ℕ → Lies → Type 0
LiesSo None at size Nothing = Unit {0}
LiesSo (Some whole) at size (Few found) = (found ≡ length (part whole at size)) × (found < size)
LiesSo (Some whole) at size (All sum) = (length (part whole at size) ≡ size) × (sum.0 ≡ sha1 (part whole at size))
LiesSo value at size lies = ⊥

-- What is reported is the one way in which this is true; or there is none.
abbrev pub ShowsJustOne : (What → Type 0) → Option Mark → Type 0
ShowsJustOne P None = (what : What) → ¬ P what
ShowsJustOne P (Some m) = (what : What) × P what × (m.kind ≡ kind_of what) × (string_bytes m.line ≡ line_of what)
    × ((other : What) → P other → other ≡ what)

-- wherever it lies so, what is reported is how it deviates from this many bytes with this sum
abbrev pub ShowsDeviation : Lies → ℕ → Text → Option Mark → Type 0
ShowsDeviation lies size sum mark = (v : Value) (at : ℕ) → LiesSo v at size lies
    → ShowsJustOne (BytesDeviate v at size sum) mark

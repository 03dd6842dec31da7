-- A map of names against the changes that made it.
use Rattle.std.specs.BTreeMap.{BTreeMap, get_by_text}
use Rattle.std.specs.declared.alloc.Global.{Global}
use Rattle.std.specs.Prelude.{◌≡◌, ℕ, List, String, Vec, option_map}
use Rattle.base_devices.specs.Content.{Name, Value}
use Rattle.memory_devices.specs.declared.change.Change.{Change}
use Rattle.memory_devices.specs.State.{after, first_state}

-- the bytes of a name in a map
abbrev pub bytes_at : BTreeMap (String Global) (Vec ℕ Global) → Name → Value
bytes_at held q = option_map (λ (v : Vec ℕ Global). v.items) (get_by_text held q)

-- what is held is what the changes make of what was given
abbrev pub Agrees : List (String Global × Vec ℕ Global) → BTreeMap (String Global) (Vec ℕ Global) → List Change → Type 0
Agrees given held changes = bytes_at held ≡ (after (first_state given) changes).now

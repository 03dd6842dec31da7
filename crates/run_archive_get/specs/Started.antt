-- With which arguments archive-get:async is started.
use Rattle.std.specs.Prelude.{◌≡◌, ℕ, ◌++◌, codes, decimal, List, [], ◌∷◌, map, Vec, String, string_bytes}
use Rattle.std.specs.declared.alloc.Global.{Global}
use Rattle.base_model.specs.Text.{Text}
use Rattle.cmd_trait.specs.Meaning.{Place}

-- The arguments with which a fetch is started: archive-get:async of the segment of this name, of the same stanza at the
-- same places, whatever a configuration says. It takes no lock, so none is named.
abbrev pub fetch_argument_list : Place → Text → Text → ℕ → List Text
fetch_argument_list p name spool queue = codes "--no-config" ∷ (codes "--stanza=" ++ p.stanza) ∷ (codes "--pg1-path=" ++
    p.data_folder)
    ∷ (codes "--repo1-path=" ++ p.repository)
    ∷ (codes "--spool-path=" ++ spool) ∷ (codes "--archive-get-queue-max=" ++ decimal queue)
    ∷ codes "archive-get:async" ∷ name ∷ []

-- these texts are passed as arguments
abbrev pub ArePassed : List Text → Vec (String Global) Global → Type 0
ArePassed texts arguments = map string_bytes arguments.items ≡ texts

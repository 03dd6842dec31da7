-- With which arguments archive-push:async is started.
use Rattle.std.specs.Prelude.{◌≡◌, ◌∷◌, ◌++◌, [], List, codes, map, Vec, String, string_bytes}
use Rattle.std.specs.declared.alloc.Global.{Global}
use Rattle.base_model.specs.Text.{Text}
use Rattle.cmd_trait.specs.Meaning.{Place}

-- archive-push:async of the same stanza at the same places, whatever a configuration says
abbrev pub drain_arguments : Place → Text → List Text
drain_arguments p spool = codes "--no-config" ∷ (codes "--stanza=" ++ p.stanza) ∷ (codes "--pg1-path=" ++ p.data_folder)
    ∷ (codes "--repo1-path=" ++ p.repository)
    ∷ (codes "--lock-path=" ++ p.lock_folder) ∷ (codes "--spool-path=" ++ spool) ∷ codes "archive-push:async" ∷ []

-- these texts are passed as arguments
abbrev pub ArePassed : List Text → Vec (String Global) Global → Type 0
ArePassed texts arguments = map string_bytes arguments.items ≡ texts

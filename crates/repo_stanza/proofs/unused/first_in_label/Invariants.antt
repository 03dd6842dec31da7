use Rattle.std.proofs.Common.{◌≡◌, ◌++◌, ◌∷◌, [], take}
use Rattle.base_model.specs.Names.{backup_folder}
use Rattle.base_model.specs.Text.{Text}
use Rattle.repo_stanza.specs.Unused.{IsInLabel, FindsNone}
use Rattle.repo_stanza.proofs.unused.first_in_label.Given as goal

-- none was passed
abbrev pub invariant-loop-each : goal.invariant-loop-each
invariant-loop-each l = (stanza : Text) → l.prefix ≡ backup_folder stanza ++ 47 ∷ [] → FindsNone (IsInLabel stanza) (take l.each-index l.found)

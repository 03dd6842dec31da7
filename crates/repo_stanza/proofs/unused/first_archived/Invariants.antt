use Rattle.std.proofs.Common.{◌≡◌, ◌++◌, ◌∷◌, [], take}
use Rattle.base_model.specs.Names.{archive_folder}
use Rattle.base_model.specs.Represents.{IsArchiveFile}
use Rattle.base_model.specs.Text.{Text}
use Rattle.repo_stanza.specs.Unused.{FindsNone}
use Rattle.repo_stanza.proofs.unused.first_archived.Given as goal

-- none was passed
abbrev pub invariant-loop-each : goal.invariant-loop-each
invariant-loop-each l = (stanza : Text) → l.prefix ≡ archive_folder stanza ++ 47 ∷ [] → FindsNone (IsArchiveFile stanza) (take l.each-index l.found)

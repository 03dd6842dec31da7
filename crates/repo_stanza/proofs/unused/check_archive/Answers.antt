use Rattle.std.proofs.Common.{◌∙◌, ◌++◌, ◌∷◌, [], ap}
use Rattle.base_model.specs.Names.{archive_folder}
use Rattle.base_model.specs.Represents.{IsArchiveFile}
use Rattle.base_model.specs.Text.{Text}
use Rattle.repo_stanza.proofs.Leftovers.{known_first, known_none, archive_below}
use Rattle.repo_stanza.proofs.unused.check_archive.Goals as goal

pub returns-in-Some-clause-cause : goal.returns-in-Some-clause-cause
returns-in-Some-clause-cause g c =
    let prefix_is = c.as_str-2.ensures.value ∙ c.in_ok-prefix.ensures.ok ∙ ap (λ (t : Text). t ++ 47 ∷ []) c.in_ok-folder.ensures.ok in
    known_first (IsArchiveFile c.args.stanza.now) _ (archive_folder c.args.stanza.now) _ _ _ (c.as_str.ensures.value ∙ c.in_ok-folder.ensures.ok) c.deref.ensures.value c.in_ok-found.ensures.listing
    (archive_below c.args.stanza.now) _ _ (c.in-Some.ensures.some c.args.stanza.now prefix_is) (c.in_ok-name-in-Some.ensures.ok ∙ c.as_str-in-Some.ensures.value)

pub returns-clause-none : goal.returns-clause-none
returns-clause-none g c =
    let prefix_is = c.as_str-2.ensures.value ∙ c.in_ok-prefix.ensures.ok ∙ ap (λ (t : Text). t ++ 47 ∷ []) c.in_ok-folder.ensures.ok in
    known_none (IsArchiveFile c.args.stanza.now) _ (archive_folder c.args.stanza.now) _ _ _ (c.as_str.ensures.value ∙ c.in_ok-folder.ensures.ok) c.deref.ensures.value c.in_ok-found.ensures.listing
    (archive_below c.args.stanza.now) (c.in-None.ensures.none c.args.stanza.now prefix_is)

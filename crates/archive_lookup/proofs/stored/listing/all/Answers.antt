use Rattle.std.proofs.Common.{◌∙◌, refl, rules}
use Rattle.archive_lookup.proofs.Listed.{known_stored, known_many}
use Rattle.archive_lookup.proofs.stored.listing.all.Goals as goal

pub returns-then-len-gt-MOST_FILES-clause-cause : goal.returns-then-len-gt-MOST_FILES-clause-cause
returns-then-len-gt-MOST_FILES-clause-cause g c = (
  refl,
  known_many c.args.stanza.now _ c.in_ok-files.files.items 4000000
      (known_stored c.args.stanza.now _ _ _ _ _ _ c.in_ok-files.files.items c.in_ok-folder.ensures.ok c.as_str.ensures.value (c.as_str-2.ensures.value ∙ c.in_ok-prefix.ensures.ok) c.deref.ensures.value c.in_ok-found.ensures.listing c.in_ok-files.ensures) (search rules),
)

pub returns-clause-all : goal.returns-clause-all
returns-clause-all g c =
    known_stored c.args.stanza.now _ _ _ _ _ _ c.in_ok-files.files.items c.in_ok-folder.ensures.ok c.as_str.ensures.value (c.as_str-2.ensures.value ∙ c.in_ok-prefix.ensures.ok) c.deref.ensures.value c.in_ok-found.ensures.listing c.in_ok-files.ensures

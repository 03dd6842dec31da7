use Rattle.archive_lookup.proofs.Looked.{look_shows}
use Rattle.archive_lookup.proofs.stored.stored_lookup.look_in_folder.Goals as goal

pub returns-clause-shows : goal.returns-clause-shows
returns-clause-shows g c =
    look_shows _ c.args.names.now _ _ _ _ _ _ _ c.as_str.ensures.value c.as_str-2.ensures.value c.deref.ensures.value c.in_ok-found.ensures.listing c.in_ok-kept.ensures c.deref-2.ensures.value c.in_ok-look_among.ensures

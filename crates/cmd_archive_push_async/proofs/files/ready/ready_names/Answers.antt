use Rattle.cmd_archive_push_async.proofs.Readies.{known_ready}
use Rattle.cmd_archive_push_async.proofs.files.ready.ready_names.Goals as goal

pub returns-in-Ok-names_among-clause-ready : goal.returns-in-Ok-names_among-clause-ready
returns-in-Ok-names_among-clause-ready g c = known_ready _ _ _ _ c.in-Ok-names_among.names.items (cc) c.deref.ensures.value c.in-Ok.ensures.listing c.in-Ok-names_among.ensures

use Rattle.memory_processes.proofs.Pushed.{begun_still}
use Rattle.memory_processes.proofs.pushing.may_push.Goals as goal

pub returns-clause-begun : goal.returns-clause-begun
returns-clause-begun g c = λ q log keeps some. begun_still c.args.stanza.now _ _ c.is_stored.ensures.looks.time c.is_stored.ensures.looks.now q log (c.in_ok-sync_directories.ensures.begun q log keeps some)

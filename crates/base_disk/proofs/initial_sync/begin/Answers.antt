use Rattle.base_model.specs.Names.{is_of_stanza}
use Rattle.base_model.proofs.Begun.{begun}
use Rattle.base_model.proofs.Below.{fixed_of, places_of}
use Rattle.base_disk.proofs.initial_sync.begin.Goals as goal

pub returns-clause-begun : goal.returns-clause-begun
returns-clause-begun g c = λ q log keeps known. begun _ _ c.settle_folders.ensures.looks.time c.args.stanza.now q log (is_of_stanza c.args.stanza.now) c.settle_folders.ensures.looks.now c.in_ok-settle_folders.ensures.settled (fixed_of c.args.stanza.now) (places_of c.args.stanza.now) keeps known

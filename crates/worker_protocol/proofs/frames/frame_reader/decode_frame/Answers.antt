use Rattle.std.proofs.Common.{ap, subst, ◌∙◌, arith}
use Rattle.worker_protocol.specs.Views.{frame_of}
use Rattle.worker_protocol.specs.Reading.{Gives, frame_at}
use Rattle.worker_protocol.proofs.Cut.{is_short}
use Rattle.worker_protocol.proofs.Settled.{is_settled}
use Rattle.worker_protocol.proofs.Laws.{is_found, frame_again}
use Rattle.worker_protocol.proofs.frames.frame_reader.decode_frame.Goals as goal

pub returns-clause-found : goal.returns-clause-found
returns-clause-found c = is_found c.args.bytes.now c.frame_at.result (λ i. omega (arith, c.type_inv.bytes i)) c.frame_at.ensures

pub returns-clause-only : goal.returns-clause-only
returns-clause-only c = λ f rest fits e. subst (λ r. Gives (λ x. (frame_of x.0, x.1)) c.frame_at.result r) (ap frame_at e ∙ frame_again f rest fits) c.frame_at.ensures

pub returns-clause-short : goal.returns-clause-short
returns-clause-short c = is_short c.args.bytes.now c.frame_at.result c.frame_at.ensures

pub returns-clause-settled : goal.returns-clause-settled
returns-clause-settled c = λ more found. is_settled c.args.bytes.now more c.frame_at.result c.frame_at.ensures found

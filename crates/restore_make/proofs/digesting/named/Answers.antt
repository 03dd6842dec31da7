use Rattle.std.proofs.Common.{◌∙◌, sym, ap, subst, length}
use Rattle.worker_pool.specs.declared.dispatch.fault.DispatchFault.{DispatchFault}
use Rattle.restore_steps.proofs.Listing.{got}
use Rattle.restore_make.specs.declared.candidates.Candidate.{Candidate}
use Rattle.restore_make.specs.Digested.{file_of}
use Rattle.restore_make.specs.Faults.{HasItsFile}
use Rattle.restore_make.proofs.digesting.named.Goals as goal

pub returns-in_ok-clone-in-Unread : goal.returns-in_ok-clone-in-Unread
returns-in_ok-clone-in-Unread c =
    let cs = c.args.candidates.now in
    let x = c.index-candidates-job.result in
    let lt = subst (λ (f : DispatchFault). HasItsFile f (length cs)) c.in-Unread.is c.requires in
    (c.in-Unread.job, c.in-Unread.item, x, c.in-Unread.is, got cs c.in-Unread.job x lt c.index-candidates-job.is, c.in_ok-clone-in-Unread.ensures.cases ∙ ap (λ (y : Candidate). (file_of y).path) (sym c.index-candidates-job.is))

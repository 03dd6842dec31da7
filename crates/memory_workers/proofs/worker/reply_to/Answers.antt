use Rattle.std.proofs.Common.{◌∙◌, ◌++◌, Some, ap, refl}
use Rattle.worker_protocol.specs.Frames.{spell}
use Rattle.worker_protocol.specs.Frames.Frame.{Setup, Task}
use Rattle.memory_workers.specs.Workers.{files_in}
use Rattle.memory_workers.proofs.Answered.{served_reply, written_answer}
use Rattle.memory_workers.proofs.worker.reply_to.Goals as goal

pub returns-clause-bytes : goal.returns-clause-bytes
returns-clause-bytes c =
    let tree = files_in c.args.tree.now in
    let repo = files_in c.args.repo.now in
    let job = c.requires.1 in
    let talk = c.in_ok-input.ensures in
    let served = c.in-Ok.ensures.served tree repo (spell (Setup talk.roots) ++ spell (Task c.requires.0)) refl refl (talk.is ∙ ap (λ b. Some (spell (Setup talk.roots) ++ b)) job.spelled) in
    let wrote = served_reply tree repo talk.roots c.requires.0 talk.fits job.fits _ _ _ _ _ served in
    c.in_ok-from_slice.ensures.items ∙ written_answer tree repo c.args.frame.now c.requires.0 c.written.result.now _ _ job wrote c.new-out.ensures.written c.written.ensures

use Rattle.std.proofs.Common.{inl, string_bytes}
use Rattle.worker_protocol.specs.Views.{item_of}
use Rattle.worker_process.proofs.BytesKnown.{each_some}
use Rattle.worker_process.proofs.ItemKnown.{unread_known}
use Rattle.worker_process.proofs.job_reply.answer_next.Goals as goal

pub returns-else-is_open-clause-known : goal.returns-else-is_open-clause-known
returns-else-is_open-clause-known g c =
    let i = c.args.item.now in
    each_some (g.F.Files.files c.args.files.now) _ (λ f.
    unread_known c.args.kind (item_of i) (f (string_bytes i.path)) _ c.tell_unread.result (g.O.OutputStream.state c.args.out.now).written (g.O.OutputStream.state c.tell_unread.new.out).written (inl c.if-is_open.false) c.tell_unread.ensures.known)

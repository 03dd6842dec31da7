use Rattle.std.proofs.Common.{Err, ap, string_bytes}
use Rattle.base_devices.specs.declared.device_error.DeviceError.{DeviceError}
use Rattle.base_devices.specs.Cause.{Rises}
use Rattle.worker_process.specs.declared.serve_fault.ServeFault.TheVariants.{NoMemory}
use Rattle.worker_protocol.specs.Views.{item_of}
use Rattle.worker_process.proofs.BytesKnown.{if_some, each_some}
use Rattle.worker_process.proofs.ItemKnown.{fills_none, absent_known, unread_known, nothing_known}
use Rattle.worker_process.proofs.item_answer.answer_item.Goals as goal

pub returns-in-Ok-None-clause-known : goal.returns-in-Ok-None-clause-known
returns-in-Ok-None-clause-known g c =
    let i = c.args.item.now in
    if_some (g.F.Files.files c.args.files.now) _ _ (λ f fills.
    absent_known c.args.kind i.root (string_bytes i.path) i.at i.size (f (string_bytes i.path)) _ c.tell_absent.result (g.O.OutputStream.state c.args.out.now).written (g.O.OutputStream.state c.tell_absent.new.out).written (fills_none (f (string_bytes i.path)) (item_of i) 0 c.fill_part.new.room fills) c.tell_absent.ensures.known)
    (rw c.in-Ok-None.field-0-is at c.in-Ok-None.ensures.known)

pub returns-in-Err-Failed-clause-known : goal.returns-in-Err-Failed-clause-known
returns-in-Err-Failed-clause-known g c =
    let i = c.args.item.now in
    each_some (g.F.Files.files c.args.files.now) _ (λ f.
    unread_known c.args.kind (item_of i) (f (string_bytes i.path)) _ c.tell_unread.result (g.O.OutputStream.state c.args.out.now).written (g.O.OutputStream.state c.tell_unread.new.out).written (c.in-Err-Failed.ensures.cause.failed (ap (λ (s : DeviceError). Err s) c.in-Err-Failed.field-0-is)) c.tell_unread.ensures.known)

pub returns-in-Err-NoMemory-clause-known : goal.returns-in-Err-NoMemory-clause-known
returns-in-Err-NoMemory-clause-known g c =
    let i = c.args.item.now in
    each_some (g.F.Files.files c.args.files.now) _ (λ f.
    nothing_known c.args.kind i.root (string_bytes i.path) i.at i.size (f (string_bytes i.path)) (Rises (g.F.Files.faults c.args.files.now) (g.F.Files.faults c.fill_part.new.files)) NoMemory (g.O.OutputStream.state c.args.out.now).written)

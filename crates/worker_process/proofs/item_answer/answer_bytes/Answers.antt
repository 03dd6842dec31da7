use Rattle.std.proofs.Common.{ℕ, Err, ◌≡◌, ◌+◌, Some, arith, subst, ap, ◌∙◌}
use Rattle.base_devices.specs.Cause.{Rises}
use Rattle.base_devices.specs.declared.device_error.DeviceError.{DeviceError}
use Rattle.worker_process.specs.declared.serve_fault.ServeFault.TheVariants.{NoMemory}
use Rattle.worker_protocol.specs.Views.{item_of}
use Rattle.worker_process.proofs.BytesKnown.{if_some, if_both, any_fault, rises_from, IsKnown, part_failed, part_known, part_hashed, known_next, known_unread, known_stopped, end_known}
use Rattle.worker_process.proofs.item_answer.answer_bytes.Goals as goal

pub returns-in_err-tell_bytes-clause-known : goal.returns-in_err-tell_bytes-clause-known
returns-in_err-tell_bytes-clause-known g c =
    let i = c.loop-count.invariant in
    let item = item_of c.args.item.now in
    let old = (g.O.OutputStream.state c.args.out.now).written in
    let new = (g.O.OutputStream.state c.tell_bytes.new.out).written in
    if_some (g.F.Files.files c.args.files.now) _ _ (λ f so bytes is first.
    any_fault c.args.kind item (Some bytes) _ c.from_residual.result old new c.from_residual.ensures.0 (λ e.
    part_failed c.args.kind item bytes c.loop-count.known c.loop-count.count c.loop-count.room old (g.O.OutputStream.state c.loop-count.out).written i.long i.small (omega arith) (so bytes is first).0 _ e new c.in_err-tell_bytes.ensures.writes)) i.so_far

pub returns-in-Err-Failed-clause-known : goal.returns-in-Err-Failed-clause-known
returns-in-Err-Failed-clause-known g c =
    let i = c.loop-count.invariant in
    let item = item_of c.args.item.now in
    let old = (g.O.OutputStream.state c.args.out.now).written in
    let mid = (g.O.OutputStream.state c.tell_bytes.new.out).written in
    if_some (g.F.Files.files c.args.files.now) _ _ (λ f so bytes is first.
    known_unread c.args.kind item bytes (c.loop-count.known + c.loop-count.count) c.loop-count.count old mid
    (part_known c.args.kind item bytes c.loop-count.known c.loop-count.count c.loop-count.room old (g.O.OutputStream.state c.loop-count.out).written i.long i.small (omega arith) (so bytes is first).0 mid c.in_ok-tell_bytes.ensures.writes)
    _ c.tell_unread.result (g.O.OutputStream.state c.tell_unread.new.out).written
    (rises_from _ (g.F.Files.faults c.loop-count.files) _ i.failed (c.in-Err-Failed.ensures.cause.failed (ap (λ (s : DeviceError). Err s) c.in-Err-Failed.field-0-is))) c.tell_unread.ensures.known) i.so_far

pub returns-in-Err-NoMemory-clause-known : goal.returns-in-Err-NoMemory-clause-known
returns-in-Err-NoMemory-clause-known g c =
    let i = c.loop-count.invariant in
    let item = item_of c.args.item.now in
    let old = (g.O.OutputStream.state c.args.out.now).written in
    let mid = (g.O.OutputStream.state c.tell_bytes.new.out).written in
    if_some (g.F.Files.files c.args.files.now) _ _ (λ f so bytes is first.
    known_stopped c.args.kind item bytes (c.loop-count.known + c.loop-count.count) c.loop-count.count old mid
    (part_known c.args.kind item bytes c.loop-count.known c.loop-count.count c.loop-count.room old (g.O.OutputStream.state c.loop-count.out).written i.long i.small (omega arith) (so bytes is first).0 mid c.in_ok-tell_bytes.ensures.writes)
    (Rises (g.F.Files.faults c.args.files.now) (g.F.Files.faults c.next_part.new.files)) NoMemory) i.so_far

pub loop-count-preserved : goal.loop-count-preserved
loop-count-preserved g c =
    let i = c.loop-count.invariant in
    let r = c.in-Ok.ensures in
    let item = item_of c.args.item.now in
    let old = (g.O.OutputStream.state c.args.out.now).written in
    let now = (g.O.OutputStream.state c.loop-count.out).written in
    let mid = (g.O.OutputStream.state c.tell_bytes.new.out).written in
    record {
      long = r.length ∙ c.in_ok-tell_bytes.ensures.room ∙ i.long;
      small = r.room.0;
      size = omega (arith, r.room.1, i.size);
      within = omega (arith, r.within);
      files = r.files ∙ i.files;
      place = r.place ∙ i.place;
      failed = omega (arith, i.failed, c.next_part.ensures.cause.later);
      later = omega (arith, i.later, c.in_ok-tell_bytes.ensures.later);
      so_far = if_both (g.F.Files.files c.args.files.now) (g.F.Files.files c.loop-count.files) _ _ _ i.files (λ f so next bytes is first.
          let t = (so bytes is first).0 in
          let p = part_known c.args.kind item bytes c.loop-count.known c.loop-count.count c.loop-count.room old now i.long i.small (omega arith) t mid c.in_ok-tell_bytes.ensures.writes in (
            known_next c.args.kind item bytes (c.loop-count.known + c.loop-count.count) c.loop-count.count old mid p c.next_part.new.room c.in-Ok.next (next bytes is),
            part_hashed c.args.kind item bytes c.loop-count.known c.loop-count.count c.loop-count.room old now i.long i.small (omega arith) t c.loop-count.digest c.hash_part.new.digest (so bytes is first).1 c.hash_part.ensures,
          )) i.so_far r.known;
    }

pub returns-clause-known : goal.returns-clause-known
returns-clause-known g c =
    let i = c.loop-count.invariant in
    let item = item_of c.args.item.now in
    let old = (g.O.OutputStream.state c.args.out.now).written in
    let now = (g.O.OutputStream.state c.loop-count.out).written in
    let over : c.loop-count.count ≡ 0 = omega arith in
    if_some (g.F.Files.files c.args.files.now) _ _ (λ f so bytes is first.
    end_known c.args.kind item bytes c.loop-count.known c.loop-count.room old now (Rises (g.F.Files.faults c.args.files.now) (g.F.Files.faults c.loop-count.files)) c.loop-count.digest c.finalize.result
    (subst (λ (n : ℕ). IsKnown c.args.kind item bytes c.loop-count.known n c.loop-count.room old now) over (so bytes is first).0) (so bytes is first).1 c.finalize.ensures
    c.tell_end.result (g.O.OutputStream.state c.tell_end.new.out).written c.tell_end.ensures.known) i.so_far

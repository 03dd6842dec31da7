use Rattle.std.proofs.Common.{◌≡◌, ◌<◌, ◌≤◌, ℕ, length, vec_len, arith, ap, sym, subst, ◌∙◌}
use Rattle.worker_protocol.specs.Views.{frame_of}
use Rattle.worker_protocol.specs.Frames.{IsPrefix}
use Rattle.worker_protocol.specs.Reading.{IsCutShort}
use Rattle.worker_process.specs.Receiving.{IsFullyReceived, size_known}
use Rattle.worker_process.proofs.Received.{some_bytes, first_byte, was_read, received_other, received_frame, received_fault, size_same, cut_then}
use Rattle.worker_process.proofs.receiving.receive_frame.Goals as goal

pub returns-then-index-letter-clause-received_reply : goal.returns-then-index-letter-clause-received_reply
returns-then-index-letter-clause-received_reply g c = λ rest is.
    let left = (g.I.InputFiles.state c.read_to.new.input).left in
    let bytes = c.read_to.new.bytes.items in
    let r = was_read (g.I.InputFiles.state c.args.input.now).left left bytes rest is (c.in_ok-read_to.ensures.given (g.I.InputFiles.state c.args.input.now).left c.stages.invariant.given) in
    let some : 0 < length bytes = omega (arith, some_bytes (vec_len c.read_to.new.bytes) c.if-is_empty.ensures, c.read_to.new.bytes.ok) in
    received_other bytes rest left r c.args.letter c.args.start (omega (arith, c.ranges.start.fits)) some (λ e. c.if-index-letter.true (sym (first_byte bytes c.index.result.now some c.index.ensures) ∙ e))

pub returns-in-Err-clause-received_reply : goal.returns-in-Err-clause-received_reply
returns-in-Err-clause-received_reply g c = λ rest is.
    let left = (g.I.InputFiles.state c.read_to.new.input).left in
    let bytes = c.read_to.new.bytes.items in
    let r = was_read (g.I.InputFiles.state c.args.input.now).left left bytes rest is (c.in_ok-read_to.ensures.given (g.I.InputFiles.state c.args.input.now).left c.stages.invariant.given) in
    let some : 0 < length bytes = omega (arith, some_bytes (vec_len c.read_to.new.bytes) c.if-is_empty.ensures, c.read_to.new.bytes.ok) in
    received_fault bytes rest left r c.args.letter c.args.start c.in-Err.fault some (first_byte bytes c.index.result.now some c.index.ensures ∙ c.if-index-letter.false)
    (rw c.deref.ensures.value at c.in-Err.ensures.fault)

pub returns-in-Ok-Some-clause-received_reply : goal.returns-in-Ok-Some-clause-received_reply
returns-in-Ok-Some-clause-received_reply g c = λ rest is.
    let left = (g.I.InputFiles.state c.read_to.new.input).left in
    let bytes = c.read_to.new.bytes.items in
    let r = was_read (g.I.InputFiles.state c.args.input.now).left left bytes rest is (c.in_ok-read_to.ensures.given (g.I.InputFiles.state c.args.input.now).left c.stages.invariant.given) in
    let found : IsPrefix bytes (frame_of c.in-Ok-Some.frame) c.in-Ok-Some.field-0-0-1 = rw (← c.deref.ensures.value) (rw c.in-Ok-Some.field-0-is at c.in-Ok-Some.ensures.found) in
    let size : vec_len c.read_to.new.bytes ≡ length bytes = omega (arith, c.read_to.new.bytes.ok) in
    let most : length bytes ≤ c.stages.wanted = omega (arith, c.in_ok-read_to.ensures.wanted, size) in
    subst (λ (n : ℕ). IsFullyReceived (frame_of c.in-Ok-Some.frame) n rest left) (sym size ∙ sym c.len.ensures)
    (received_frame bytes rest left r (frame_of c.in-Ok-Some.frame) c.in-Ok-Some.field-0-0-1 found (omega (arith, most, c.stages.invariant.within rest is)))

pub stages-preserved : goal.stages-preserved
stages-preserved g c =
    let i = c.stages.invariant in
    let left = (g.I.InputFiles.state c.read_to.new.input).left in
    let bytes = c.read_to.new.bytes.items in
    let gives = c.in_ok-read_to.ensures.given (g.I.InputFiles.state c.args.input.now).left i.given in
    let long : 5 ≤ length bytes = omega (arith, i.least, c.if-len-wanted.false, c.len-in-stages.ensures, c.read_to.new.bytes.ok) in
    let n = c.next_size-wanted.ensures in
    let known = (rw c.in-Ok-None.field-0-is at c.in-Ok-None.ensures.short) in
    let more : length c.deref-in-stages.result.now < c.next_size-wanted.result = n.more (cut_then c.deref-in-stages.result.now (omega (arith, long, ap length c.deref-in-stages.ensures.value)) (subst IsCutShort (c.deref.ensures.value ∙ sym c.deref-in-stages.ensures.value) known.1)) in
    record {
      long = c.in_ok-read_to.ensures.room ∙ i.long;
      more = omega (arith, more, ap length c.deref-in-stages.ensures.value, c.read_to.new.bytes.ok);
      least = omega (arith, more, ap length c.deref-in-stages.ensures.value, long);
      most = n.fits;
      later = omega (arith, i.later, c.in_ok-read_to.ensures.later);
      given = gives;
      within = λ rest is. omega (arith, n.within, ap size_known c.deref-in-stages.ensures.value, size_same bytes rest left (was_read (g.I.InputFiles.state c.args.input.now).left left bytes rest is gives) long);
    }

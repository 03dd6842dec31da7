use Rattle.std.proofs.Common.{◌≡◌, ◌<◌, ◌≤◌, ◌++◌, ◌+◌, length, take, Option, Some, subst, arith, length-append, length-take}
use Rattle.std.specs.Prelude.{IfSome}
use Rattle.std.proofs.lemmas.List.{length-take-le}
use Rattle.base_devices.specs.Content.{Content, Reads}
use Rattle.cmd_verify.proofs.Pieces.{one_more}
use Rattle.base_devices.proofs.States.{looks_on}
use Rattle.cmd_verify.proofs.findings.place_sum.sum_at.Goals as goal

pub loop-count-preserved : goal.loop-count-preserved
loop-count-preserved g c =
    let D = g.D.Disk in
    let i = c.loop-count.invariant in
    let s = i.so_far in
    let name = c.args.name.now in
    let new = c.read.new.buf in
    let n = c.in-Some-2.read in
    let wanted = c.min-wanted.result in
    let piece = take wanted c.loop-count.piece in
    let wide = length-take wanted c.loop-count.piece in
    let o = (D.state c.args.d.now).view.now in
    let r = c.read.ensures in
    let from : c.in-Some.from ≡ c.args.at + c.loop-count.count = omega (arith, c.in-Some.ensures) in
    let known = rw c.in-Some-2.is at c.in_ok-read.ensures.bytes in
    let room = rw c.in-Some-2.is at c.in_ok-read.ensures.room in
    let reads : IfSome o (λ (f : Content). Reads (f name) (c.args.at + c.loop-count.count) (length piece) new (Some n)) =
    subst (λ (o : Option Content). IfSome o (λ (f : Content). Reads (f name) (c.args.at + c.loop-count.count) (length piece) new (Some n))) i.looks.now (rw from at known) in
    let some : 0 < n = omega arith in
    let fits : n ≤ length new = omega (arith, room, c.read.auto.buf) in
    record {
      looks = looks_on (D.state c.args.d.now) (D.state c.loop-count.d) (D.state c.read.new.self) i.looks r.looks;
      within = omega (arith, wide, room);
      so_far = (
        s.0 ++ take n new,
        omega (arith, s.1, length-append s.0 (take n new), length-take-le n new fits),
        c.update.ensures s.0 s.2,
        one_more o name c.args.at s.0 new c.loop-count.count (length piece) n reads some s.1 s.3,
      );
    }

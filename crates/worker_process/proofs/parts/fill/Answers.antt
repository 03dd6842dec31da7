use Rattle.std.proofs.Common.{◌≡◌, ◌-◌, ◌+◌, arith, drop, length, subst, ◌∙◌, Option}
use Rattle.std.specs.Prelude.{IfSome}
use Rattle.base_devices.specs.Content.{Content, ReadsPart}
use Rattle.worker_process.proofs.Filled.{filled_on}
use Rattle.worker_process.proofs.parts.fill.Goals as goal

pub loop-last-preserved : goal.loop-last-preserved
loop-last-preserved g c =
    let i = c.loop-last.invariant in
    let r = c.in_ok-last.ensures in
    let long : length c.read_on.new.buf ≡ c.loop-last.have + (length c.loop-last.buf - c.loop-last.have) = omega (arith, r.length, i.room) in
    record {
      same = r.length ∙ i.same;
      room = omega (arith, r.length, r.room, i.room);
      within = omega (arith, r.within);
      files = r.files ∙ i.files;
      place = r.place ∙ i.place;
      later = omega (arith, i.later, c.read_on.ensures.cause.later);
      known = filled_on (g.F.Files.files c.args.files.now) c.args.name.now c.args.at c.loop-last.have c.in_ok-last.last (length c.loop-last.buf - c.loop-last.have) c.loop-last.buf c.read_on.new.buf c.loop-last.last i.known r.prefix
          (subst (λ (o : Option Content). IfSome o (λ (f : Content). IfSome (f c.args.name.now) (λ b. ReadsPart b (c.args.at + c.loop-last.have) (length c.loop-last.buf - c.loop-last.have) (drop c.loop-last.have c.read_on.new.buf) c.in_ok-last.last))) i.files r.bytes) long;
    }

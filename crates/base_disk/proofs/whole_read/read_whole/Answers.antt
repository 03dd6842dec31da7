use Rattle.std.proofs.Common.{◌≡◌, inr, ◌++◌, Option, Some, vec_len, length, take, ◌∙◌, subst, arith}
use Rattle.std.specs.Prelude.{IfSome}
use Rattle.std.proofs.lemmas.Grind.{common_steps}
use Rattle.base_devices.specs.Content.{Content, Reads}
use Rattle.base_disk.proofs.Read.{prefix_more}
use Rattle.base_disk.proofs.whole_read.read_whole.Goals as goal

pub loop-buf-preserved : goal.loop-buf-preserved
loop-buf-preserved g c =
    let i = c.loop-buf.invariant in
    let bytes = c.loop-buf.bytes in
    let name = c.args.name.now in
    let known = c.in_ok-read.ensures.bytes in
    let reads : IfSome (g.D.Disk.state c.args.d.now).view.now (λ (f : Content). Reads (f name) (vec_len bytes) (length c.loop-buf.buf) c.read.new.buf (Some c.in-Some.n)) =
    subst (λ (o : Option Content). IfSome o (λ (f : Content). Reads (f name) (vec_len bytes) (length c.loop-buf.buf) c.read.new.buf (Some c.in-Some.n))) i.now (rw (c.in-Some.is, c.len-in-loop-buf.ensures) at known) in
    let more : c.extend_from_slice.new.self.items ≡ bytes.items ++ take c.in-Some.n c.read.new.buf = grind (arith, common_steps) in
    record {
      now = c.read.ensures.looks.now ∙ i.now;
      time = grind (arith, common_steps);
      place = c.read.ensures.looks.opened ∙ i.place;
      proper = c.read.ensures.looks.proper ∙ i.proper;
      later = omega arith;
      prefix = inr (prefix_more (g.D.Disk.state c.args.d.now).view.now (λ (f : Content). f name) bytes.items c.read.new.buf c.extend_from_slice.new.self.items (vec_len bytes) c.in-Some.n (length c.loop-buf.buf) (vec_len c.extend_from_slice.new.self) reads i.prefix (grind (arith, common_steps)) more (grind (arith, common_steps)));
    }

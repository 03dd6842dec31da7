use Rattle.std.proofs.Common.{◌≡◌, inr, ◌++◌, Option, Some, vec_len, length, take, ◌∙◌, subst, arith}
use Rattle.std.specs.Prelude.{IfSome}
use Rattle.std.proofs.lemmas.Grind.{common_steps}
use Rattle.base_devices.specs.Content.{Reads}
use Rattle.base_devices.specs.DataFolder.{Nodes, file_bytes, known_path}
use Rattle.base_disk.proofs.Read.{prefix_more}
use Rattle.cmd_types.proofs.stages.prefix_read.read_prefix.Goals as goal

pub loop-buf-preserved : goal.loop-buf-preserved
loop-buf-preserved g c =
    let i = c.loop-buf.invariant in
    let bytes = c.loop-buf.bytes in
    let path = known_path c.args.what.now in
    let known = c.in_ok-read.ensures.bytes in
    let reads : IfSome (g.T.DataFolder.state c.args.tree.now).nodes (λ (f : Nodes). Reads (file_bytes (f path)) (vec_len bytes) (length c.loop-buf.buf) c.read.new.buf (Some c.in-Some.n)) =
    subst (λ (o : Option Nodes). IfSome o (λ (f : Nodes). Reads (file_bytes (f path)) (vec_len bytes) (length c.loop-buf.buf) c.read.new.buf (Some c.in-Some.n))) i.nodes (rw (c.in-Some.is, c.len-in-loop-buf.ensures) at known) in
    let more : c.extend_from_slice.new.self.items ≡ bytes.items ++ take c.in-Some.n c.read.new.buf = grind (arith, common_steps) in
    record {
      nodes = c.read.ensures.looks.nodes ∙ i.nodes;
      place = c.read.ensures.looks.opened ∙ i.place;
      proper = c.read.ensures.looks.proper ∙ i.proper;
      later = omega (arith, i.later, c.read.ensures.cause.later);
      prefix = inr (prefix_more (g.T.DataFolder.state c.args.tree.now).nodes (λ (f : Nodes). file_bytes (f path)) bytes.items c.read.new.buf c.extend_from_slice.new.self.items (vec_len bytes) c.in-Some.n (length c.loop-buf.buf) (vec_len c.extend_from_slice.new.self) reads i.prefix (grind (arith, common_steps)) more (grind (arith, common_steps)));
    }

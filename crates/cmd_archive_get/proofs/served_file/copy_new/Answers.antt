use Rattle.std.proofs.Common.{arith, ◌≡◌, inr, ◌∙◌, ◌+◌, ◌≤◌, ◌++◌, Option, Some, take, length, refl, subst}
use Rattle.std.specs.Prelude.{IfSome}
use Rattle.std.proofs.lemmas.Grind.{common_steps}
use Rattle.base_devices.specs.Content.{Content, Reads}
use Rattle.base_disk.proofs.Read.{prefix_more}
use Rattle.base_devices.proofs.States.{looks_on}
use Rattle.cmd_archive_get.proofs.Passes.{begun_more}
use Rattle.cmd_archive_get.proofs.served_file.copy_new.Goals as goal

pub loop-known-preserved : goal.loop-known-preserved
loop-known-preserved g c =
    let i = c.loop-known.invariant in
    let bytes = i.copied.0 in
    let known = c.loop-known.known in
    let count = c.in-Ok-Some.count in
    let piece = take count c.read.new.buf in
    let from = c.args.from.now in
    let reads : IfSome (g.D.Disk.state c.args.repo.now).view.now (λ (f : Content). Reads (f from) known (length c.loop-known.room) c.read.new.buf (Some count)) =
    subst (λ (o : Option Content). IfSome o (λ (f : Content). Reads (f from) known (length c.loop-known.room) c.read.new.buf (Some count))) i.looks.now (rw (c.in-Ok-Some.field-0-is) at c.in-Ok-Some.ensures.bytes) in
    let within : count ≤ 65536 = grind (arith, common_steps) in
    let long : length (bytes ++ piece) ≡ known + count = grind (arith, common_steps) in
    record {
      small = omega (arith, within, c.loop-known-test.true);
      copied = (
        bytes ++ piece,
        c.update.ensures bytes i.copied.1,
        long,
        inr (prefix_more (g.D.Disk.state c.args.repo.now).view.now (λ (f : Content). f from) bytes c.read.new.buf (bytes ++ piece) known count (length c.loop-known.room) (known + count) reads i.copied.3 i.copied.2 refl refl),
        begun_more c.args.name.now bytes _ _ i.copied.4 piece _ c.in_default.ensures.nodes,
      );
      looks = looks_on _ _ _ i.looks c.read.ensures.looks;
      tree_place = c.append.ensures.opened ∙ i.tree_place;
      tree_later = omega (arith, i.tree_later, c.append.ensures.cause.later);
    }

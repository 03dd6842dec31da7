use Rattle.std.proofs.Common.{arith, ◌≡◌, inr, ◌∙◌, ◌+◌, ◌≤◌, ◌++◌, Option, Some, take, length, refl, sym, subst}
use Rattle.std.specs.Prelude.{IfSome}
use Rattle.std.proofs.lemmas.Grind.{common_steps}
use Rattle.base_devices.specs.Content.{Content, Reads}
use Rattle.base_devices.proofs.States.{looks_on}
use Rattle.base_devices.proofs.Steps.{goes_on, goes_wide}
use Rattle.base_disk.proofs.Read.{prefix_more}
use Rattle.base_disk.specs.Staged.{staging_name, staging_length}
use Rattle.archive_store.proofs.Putting.{staged_more}
use Rattle.cmd_archive_get_async.proofs.ahead.spool_copy.copy.Goals as goal

pub loop-room-preserved : goal.loop-room-preserved
loop-room-preserved g c =
    let i = c.loop-room.invariant in
    let bytes = i.copied.0 in
    let known = staging_length c.loop-room.staging in
    let count = c.in-Ok-Some.count in
    let new = c.read.new.buf in
    let piece = take count new in
    let from = c.args.from.now in
    let name = c.args.name.now in
    let now = (g.D.Disk.state c.args.repo.now).view.now in
    let a = c.add_stage.ensures in
    let old = (g.S.Disk.state c.args.spool.now).view in
    let mid = (g.S.Disk.state c.loop-room.spool).view in
    let end = (g.S.Disk.state c.add_stage.new.d).view in
    let reads : IfSome now (λ (f : Content). Reads (f from) known (length c.loop-room.room) new (Some count)) =
    subst (λ (o : Option Content). IfSome o (λ (f : Content). Reads (f from) known (length c.loop-room.room) new (Some count))) i.looks.now
    (rw (c.length-in-loop-room.ensures) at (rw (c.in-Ok-Some.field-0-is) at c.in-Ok-Some.ensures.bytes)) in
    let within : count ≤ 65536 = grind (arith, common_steps) in
    let fits : count ≤ length new = grind (arith, common_steps) in
    let more : staging_length c.add_stage.new.staging ≡ known + count = grind (arith, common_steps) in
    let long : length (bytes ++ piece) ≡ known + count = grind (arith, common_steps) in
    record {
      named = a.name ∙ i.named;
      holds = c.in_default.ensures.holds;
      small = omega (arith, within, more, c.loop-room-test.true, c.length.ensures);
      others = λ q apart. a.others q (λ e. apart (e ∙ i.named)) ∙ i.others q apart;
      time = goes_on (λ _ _. ⊥) (λ n. n ≡ name) old mid end i.time (goes_wide (λ _ _. ⊥) (λ _ _. ⊥) (λ n. n ≡ staging_name c.loop-room.staging) (λ n. n ≡ name) mid end (λ n v x. x) (λ n e. e ∙ i.named) a.works.time);
      place = a.works.opened ∙ i.place;
      proper = a.works.proper ∙ i.proper;
      later = omega (arith, i.later, a.works.later);
      looks = looks_on _ _ _ i.looks c.read.ensures.looks;
      copied = (
        bytes ++ piece,
        c.update.ensures bytes i.copied.1,
        long ∙ sym more,
        inr (prefix_more now (λ (f : Content). f from) bytes new (bytes ++ piece) known count (length c.loop-room.room) (staging_length c.add_stage.new.staging) reads i.copied.3 i.copied.2 refl more),
        staged_more name (staging_name c.loop-room.staging) bytes piece old.now mid.now end.now i.named i.copied.4 c.in_default.ensures.now,
      );
    }

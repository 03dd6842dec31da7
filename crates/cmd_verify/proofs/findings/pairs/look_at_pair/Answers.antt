use Rattle.std.proofs.Common.{◌∙◌}
use Rattle.cmd_verify.proofs.Membered.{pair_known}
use Rattle.cmd_verify.proofs.findings.pairs.look_at_pair.Goals as goal

pub returns-clause-adds : goal.returns-clause-adds
returns-clause-adds g c =
    let D = g.D.Disk in
    pair_known g.I.ReadInfo.IsText g.I.ReadInfo.value (D.state c.args.d.now).view.now (D.state c.read_member.new.d).view.now c.args.name.now c.as_str.result.now c.as_str-2.result.now c.in_ok-main.main c.in_ok-copy.copy
    c.args.found.now.items c.tell_member.new.found.items c.tell_member-2.new.found.items c.tell_both.new.found.items
    (c.as_str.ensures.value ∙ c.in_ok-copy_name.ensures.ok) (c.as_str-2.ensures.value ∙ c.in_ok-copy_name.ensures.ok) c.in_ok-main.ensures.looks.now
    c.in_ok-main.ensures.member c.in_ok-copy.ensures.member c.in_ok-tell_member.ensures c.in_ok-tell_member-2.ensures c.in_ok-tell_both.ensures

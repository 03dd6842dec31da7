use Rattle.std.proofs.Common.{◌∙◌}
use Rattle.cmd_verify.proofs.Whole.{pairs_known, values_known}
use Rattle.cmd_verify.proofs.findings.whole_check.look_at_pairs.Goals as goal

pub returns-clause-adds : goal.returns-clause-adds
returns-clause-adds g c = let D = g.D.Disk in
    pairs_known c.args.stanza.now (D.state c.args.d.now).view.now (D.state c.look_at_pair.new.d).view.now c.as_str.result.now c.as_str-2.result.now c.args.found.now.items c.look_at_pair.new.found.items c.look_at_pair-2.new.found.items
    c.look_at_pair.ensures.looks.now (c.as_str.ensures.value ∙ c.in_ok-archive_name.ensures.ok) (c.as_str-2.ensures.value ∙ c.in_ok-backup_name.ensures.ok) c.in_ok-archive.ensures.adds c.in_ok-backup.ensures.adds

pub returns-clause-values : goal.returns-clause-values
returns-clause-values g c = let D = g.D.Disk in
    values_known c.args.stanza.now (D.state c.args.d.now).view.now (D.state c.look_at_pair.new.d).view.now c.as_str.result.now c.as_str-2.result.now _ _
    c.look_at_pair.ensures.looks.now (c.as_str.ensures.value ∙ c.in_ok-archive_name.ensures.ok) (c.as_str-2.ensures.value ∙ c.in_ok-backup_name.ensures.ok) c.in_ok-archive.ensures.value c.in_ok-backup.ensures.value

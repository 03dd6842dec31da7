use Rattle.repo_info.proofs.OneArchive.{one_archive_text}
use Rattle.cmd_verify.proofs.Contradicted.{outside_none, outside_known}
use Rattle.cmd_verify.proofs.findings.contradictions.tell_outside.Goals as goal

pub returns-in_default : goal.returns-in_default
returns-in_default c = outside_none c.args.archive.now c.in_default.is c.args.files.now c.args.found.now.items

pub returns : goal.returns
returns c = outside_known c.args.archive.now c.in-Some.archive c.in-Some.is c.args.files.now c.deref.result.now c.deref.ensures.value one_archive_text c.args.found.now.items c.tell_files.new.found.items c.in_ok-tell_files.ensures

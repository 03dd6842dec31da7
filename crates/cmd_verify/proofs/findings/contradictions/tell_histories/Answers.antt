use Rattle.std.proofs.Common.{inl, inr}
use Rattle.repo_info.proofs.OneArchive.{one_archive_text}
use Rattle.repo_text_lemmas.proofs.Lists.{one_list}
use Rattle.cmd_verify.proofs.Contradicted.{histories_alone, histories_read}
use Rattle.cmd_verify.proofs.findings.contradictions.tell_histories.Goals as goal

pub returns-in_default : goal.returns-in_default
returns-in_default c = λ stanza f at value list. histories_alone stanza f c.args.archive.now c.args.backup value list (inl c.in_default.is) c.args.found.now.items

pub returns-in_default-backup : goal.returns-in_default-backup
returns-in_default-backup c = λ stanza f at value list. histories_alone stanza f c.args.archive.now c.args.backup value list (inr c.in_default-backup.is) c.args.found.now.items

pub returns : goal.returns
returns c = λ stanza f at value list.
    histories_read stanza f c.args.archive.now c.args.backup value list one_archive_text one_list c.in-Some.archive c.in-Some-backup.backup c.in-Some.is c.in-Some-backup.is c.args.name.now at c.args.found.now.items c.tell_apart.new.found.items c.in_ok-tell_apart.ensures

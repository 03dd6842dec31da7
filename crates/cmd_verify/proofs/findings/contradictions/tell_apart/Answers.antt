use Rattle.std.proofs.Common.{refl}
use Rattle.base_model.specs.Values.{archive_info_of, backup_info_of}
use Rattle.repo_stanza.specs.Pairs.{AreTogether}
use Rattle.cmd_verify.specs.What.{Contradicts, HistoriesDiffer}
use Rattle.cmd_verify.proofs.Contradicted.{at_known, at_none}
use Rattle.cmd_verify.proofs.findings.contradictions.tell_apart.Goals as goal

pub returns-in_ok-push : goal.returns-in_ok-push
returns-in_ok-push c =
    at_known c.args.name.now (Contradicts HistoriesDiffer) (¬ AreTogether (archive_info_of c.args.archive.now) (backup_info_of c.args.backup)) c.args.found.now.items c.push.new.self.items c.in_ok-contradiction.field-0 (c.are_together.ensures.no c.if-not-are_together.true)
    (c.in_ok-contradiction.ensures HistoriesDiffer refl) c.in_ok-push.ensures.items

pub returns-else-not-are_together : goal.returns-else-not-are_together
returns-else-not-are_together c =
    at_none c.args.name.now (Contradicts HistoriesDiffer) (¬ AreTogether (archive_info_of c.args.archive.now) (backup_info_of c.args.backup)) c.args.found.now.items (λ no. no (c.are_together.ensures.yes c.if-not-are_together.false))

use Rattle.base_model.specs.Values.{archive_info_of, backup_info_of}
use Rattle.cmd_verify.proofs.Contradicted.{validated, differing}
use Rattle.cmd_verify.proofs.findings.contradictions.are_together.Goals as goal

pub returns-in-Ok-clause-yes : goal.returns-in-Ok-clause-yes
returns-in-Ok-clause-yes c = λ _. validated (archive_info_of c.args.archive.now) (backup_info_of c.args.backup) _ c.in-Ok.ensures.settled

pub returns-clause-no : goal.returns-clause-no
returns-clause-no c = λ _. differing (archive_info_of c.args.archive.now) (backup_info_of c.args.backup) _ c.in-Err.ensures.differ

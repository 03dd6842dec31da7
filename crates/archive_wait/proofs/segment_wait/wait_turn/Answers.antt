use Rattle.std.proofs.Common.{true, false}
use Rattle.archive_wait.proofs.Turns.{turn_went}
use Rattle.archive_wait.proofs.segment_wait.wait_turn.Goals as goal

pub returns-in-Ok-clause-went : goal.returns-in-Ok-clause-went
returns-in-Ok-clause-went g c = let e = c.in-Ok.ensures in
    turn_went true _ _ _ _ _ _ e.account e.repository e.repo_only
    e.spool_only e.receipts e.spool_known

pub returns-in-Err-clause-went : goal.returns-in-Err-clause-went
returns-in-Err-clause-went g c = let e = c.in-Err.ensures in
    turn_went false _ _ _ _ _ _ e.account e.repository e.repo_only
    e.spool_only e.receipts e.spool_known

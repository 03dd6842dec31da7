use Rattle.base_devices.specs.States.{CallsProperly, OnlyReads}
use Rattle.repo_names.specs.Next.{IsOfLog}
use Rattle.cmd_archive_get_async.specs.Names.{ChangesAhead}
use Rattle.cmd_archive_get_async.proofs.Fetched.{HasFetched}
use Rattle.cmd_archive_get_async.proofs.ahead.prefetch.fetch_ahead.Given as goal

abbrev pub invariant-loop-count : goal.invariant-loop-count
invariant-loop-count g l = let D = g.D.Disk in let S = g.S.Disk in record {
  so_far : HasFetched l.stanza l.id l.after l.size.0 (D.state l.fn.repo).view.now (S.state l.fn.spool).view.now (S.state l.spool).view.now l.last l.count;
  of_log : IsOfLog l.size.0 l.last;
  only : ChangesAhead l.stanza (S.state l.fn.spool).view (S.state l.spool).view;
  frame : CallsProperly (S.state l.fn.spool) (S.state l.spool);
  looks : OnlyReads (D.state l.fn.repo) (D.state l.repo);
}

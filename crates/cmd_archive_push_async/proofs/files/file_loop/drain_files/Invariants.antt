use Rattle.std.proofs.Common.{◌≡◌, ◌≤◌, ◌+◌, Some, take}
use Rattle.base_devices.specs.States.{CallsProperly, OnlyReadsFolder}
use Rattle.base_devices.specs.DataFolder.{Nodes}
use Rattle.archive_lookup.specs.Stored.{ChangesArchive}
use Rattle.cmd_archive_push_async.specs.Between.{PutsSome}
use Rattle.cmd_archive_push_async.specs.Draining.{Drains}
use Rattle.cmd_archive_push_async.specs.Paired.{KeepsPair}
use Rattle.cmd_archive_push_async.proofs.files.file_loop.drain_files.Given as goal

abbrev pub invariant-loop-name : goal.invariant-loop-name
invariant-loop-name g l = let D = g.D.Disk in let S = g.S.Disk in let T = g.T.DataFolder in record {
  drains : (f : Nodes) → (T.state l.fn.tree).nodes ≡ Some f → Drains l.to.stanza.now l.to.id l.to.system f (take l.name-index l.names) (Some l.drained) (D.state l.fn.repo).view (D.state l.repo).view (S.state l.fn.spool).view (S.state l.spool).view;
  few : l.drained.pushed + l.drained.refused ≤ l.name-index;
  puts_only : PutsSome l.to.stanza.now l.to.id (D.state l.fn.repo) (D.state l.repo);
  pair : KeepsPair l.to.stanza.now (D.state l.fn.repo).view (D.state l.repo).view;
  repo_only : ChangesArchive l.to.stanza.now (D.state l.fn.repo).view (D.state l.repo).view;
  spool_only : ChangesArchive l.to.stanza.now (S.state l.fn.spool).view (S.state l.spool).view;
  repo_frame : CallsProperly (D.state l.fn.repo) (D.state l.repo);
  spool_frame : CallsProperly (S.state l.fn.spool) (S.state l.spool);
  looks : OnlyReadsFolder (T.state l.fn.tree) (T.state l.tree);
}

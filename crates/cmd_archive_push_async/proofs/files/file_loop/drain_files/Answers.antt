use Rattle.std.proofs.Common.{◌∙◌, Ok, Err, refl, arith}
use Rattle.base_disk.proofs.Changes.{only_none, only_on}
use Rattle.cmd_archive_push_async.proofs.Following.{drains_next, drains_so_far, drains_end, drains_none, drains_by, so_far_ends}
use Rattle.cmd_archive_push_async.proofs.Paired.{pair_same, pair_on}
use Rattle.cmd_archive_push_async.proofs.Putting.{some_none, some_on}
use Rattle.cmd_archive_push_async.proofs.files.file_loop.drain_files.Goals as goal

pub loop-name-init : goal.loop-name-init
loop-name-init g c = record {
  drains = λ f is. drains_none c.args.to.now.stanza.now c.args.to.now.id c.args.to.now.system f _ refl refl _ _;
  few = omega arith;
  puts_only = some_none c.args.to.now.stanza.now c.args.to.now.id _;
  pair = pair_same c.args.to.now.stanza.now _;
  repo_only = only_none _ _;
  spool_only = only_none _ _;
  repo_frame = record { opened = refl; proper = refl; later = omega arith };
  spool_frame = record { opened = refl; proper = refl; later = omega arith };
  looks = record { nodes = refl; opened = refl; proper = refl; later = omega arith };
}

pub returns-in-Err-clause-drains : goal.returns-in-Err-clause-drains
returns-in-Err-clause-drains g c = λ f is.
    let i = c.loop-name.invariant in
    drains_so_far c.args.to.now.stanza.now c.args.to.now.id c.args.to.now.system f c.args.names.now c.loop-name.name-index _ c.loop-name-test.true _ _ _ _ _ _ _ (i.drains f is)
    (drains_by c.args.to.now.stanza.now c.args.to.now.id c.args.to.now.system f _ _ _ _ _ c.store_file.result (Err c.in-Err.halt) c.in-Err.is (c.store_file.ensures.drains f (i.looks.nodes ∙ is)))

pub returns-in-Err-clause-cause : goal.returns-in-Err-clause-cause
returns-in-Err-clause-cause g c =
    let i = c.loop-name.invariant in
    so_far_ends c.args.to.now.stanza.now c.args.to.now.id _ _ _ c.args.names.now c.loop-name.name-index _ c.loop-name-test.true i.looks.nodes _ _ _ _ _ _ _ _ _ i.repo_frame.later i.spool_frame.later i.looks.later c.in-Err.halt c.in-Err.ensures.cause

pub loop-name-preserved : goal.loop-name-preserved
loop-name-preserved g c =
    let i = c.loop-name.invariant in
    let e = c.store_file.ensures in
    record {
      drains = λ f is. drains_next c.args.to.now.stanza.now c.args.to.now.id c.args.to.now.system f c.args.names.now c.loop-name.name-index _ c.loop-name-test.true _ _ _ _ _ _ _ (i.drains f is)
          c.in-Ok.more c.with-drained.result c.with-drained.ensures.pushed c.with-drained.ensures.refused
          (drains_by c.args.to.now.stanza.now c.args.to.now.id c.args.to.now.system f _ _ _ _ _ c.store_file.result (Ok c.in-Ok.more) c.in-Ok.is (e.drains f (i.looks.nodes ∙ is)));
      few = omega (arith, i.few, c.in-Ok.ensures.few, c.with-drained.ensures.pushed, c.with-drained.ensures.refused);
      puts_only = some_on c.args.to.now.stanza.now c.args.to.now.id _ _ _ i.puts_only e.puts_only;
      pair = pair_on c.args.to.now.stanza.now _ _ _ i.pair e.pair;
      repo_only = only_on _ _ _ _ i.repo_only e.repo_only;
      spool_only = only_on _ _ _ _ i.spool_only e.spool_only;
      repo_frame = record { opened = e.repo_frame.opened ∙ i.repo_frame.opened; proper = e.repo_frame.proper ∙ i.repo_frame.proper; later = omega (arith, i.repo_frame.later, e.repo_frame.later) };
      spool_frame = record { opened = e.spool_frame.opened ∙ i.spool_frame.opened; proper = e.spool_frame.proper ∙ i.spool_frame.proper; later = omega (arith, i.spool_frame.later, e.spool_frame.later) };
      looks = record { nodes = e.looks.nodes ∙ i.looks.nodes; opened = e.looks.opened ∙ i.looks.opened; proper = e.looks.proper ∙ i.looks.proper; later = omega (arith, i.looks.later, e.looks.later) };
    }

pub returns-clause-drains : goal.returns-clause-drains
returns-clause-drains g c = λ f is. drains_end c.args.to.now.stanza.now c.args.to.now.id c.args.to.now.system f c.args.names.now c.loop-name.name-index _ _ _ _ _ c.loop-name-test.false (c.loop-name.invariant.drains f is)

pub returns-in-Err-clause-pair : goal.returns-in-Err-clause-pair
returns-in-Err-clause-pair g c = pair_on c.args.to.now.stanza.now _ _ _ c.loop-name.invariant.pair c.store_file.ensures.pair

pub returns-in-Err-clause-puts_only : goal.returns-in-Err-clause-puts_only
returns-in-Err-clause-puts_only g c = some_on c.args.to.now.stanza.now c.args.to.now.id _ _ _ c.loop-name.invariant.puts_only c.store_file.ensures.puts_only

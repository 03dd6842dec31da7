use Rattle.test_workers.proofs.dispatch.add_reply.Given as goal

abbrev pub decreases-loop-left : goal.decreases-loop-left
decreases-loop-left l = l.left

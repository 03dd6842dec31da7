use Rattle.std.proofs.Common.{sym, subst}
use Rattle.restore_steps.specs.Apart.{AreApart}
use Rattle.restore_steps.proofs.Listing.{paths_back, wanted_back, fresh_at, first_order}
use Rattle.restore_steps.proofs.contents.keeper.FileKeeper.new.Goals as goal

pub invariant_of-result : goal.invariant_of-result
invariant_of-result g c = record {
  apart = subst AreApart (sym (paths_back c.args.wanted.now c.in_ok-files.files.items c.in_ok-files.ensures)) c.requires.apart;
  one = c.requires.one;
}

pub returns-clause-wanted : goal.returns-clause-wanted
returns-clause-wanted g c = wanted_back c.args.wanted.now c.in_ok-files.files.items c.in_ok-files.ensures

pub returns-clause-empty : goal.returns-clause-empty
returns-clause-empty g c = λ j lt. fresh_at (g.T.DataFolder.state c.args.tree.now).nodes c.args.wanted.now c.in_ok-files.files.items j c.in_ok-files.ensures lt

pub returns-clause-agrees : goal.returns-clause-agrees
returns-clause-agrees g c = first_order (g.T.DataFolder.state c.args.tree.now).nodes c.args.wanted.now c.in_ok-files.files.items c.in_ok-files.ensures

use Rattle.std.proofs.Common.{List, map, subst}
use Rattle.std.proofs.lemmas.List.{take_all}
use Rattle.std.proofs.lemmas.Result.{err_from_is_err_and}
use Rattle.base_devices.specs.declared.data_folder.FolderEntry as rust
use Rattle.backup_plan.specs.Filter.{kept, IsFine, IsTimed, AreFine, AreTimed}
use Rattle.backup_plan.specs.Views.{seen_of}
use Rattle.backup_plan.proofs.Taking.{all_next, files_next, folders_next, refused_here}
use Rattle.backup_plan.proofs.listing_filter.collect.Goals as goal

pub returns-in_err-take-clause-refused : goal.returns-in_err-take-clause-refused
returns-in_err-take-clause-refused c =
    let x = c.node-item.result in
    let p = err_from_is_err_and c.from_residual.result c.from_residual.ensures.1 in
    rw (p.1, p.2)
    (refused_here c.args.online c.args.seen.now c.loop-node.node-index x c.loop-node-test.true c.node-item.is c.loop-node.invariant.fine c.in_err-take.ensures.kept c.in_err-take.field-0.0 c.in_err-take.ensures.refused)

pub loop-node-preserved : goal.loop-node-preserved
loop-node-preserved c =
    let online = c.args.online in
    let seen = c.args.seen.now in
    let i = c.loop-node.node-index in
    let x = c.node-item.result in
    let less = c.loop-node-test.true in
    let is = c.node-item.is in
    let inv = c.loop-node.invariant in
    let new = c.in_ok-take.ensures in
    record {
      fine = all_next online seen i x less is IsFine inv.fine new.fine;
      files = files_next online seen i x less is _ _ inv.files new.files;
      folders = folders_next online seen i x less is _ _ inv.folders new.folders;
      timed = all_next online seen i x less is IsTimed inv.timed new.timed;
    }

pub returns-clause-fine : goal.returns-clause-fine
returns-clause-fine c = subst (λ (xs : List rust.FolderEntry). AreFine (kept c.args.online (map seen_of xs))) (take_all c.loop-node.node-index c.args.seen.now c.loop-node-test.false) c.loop-node.invariant.fine

pub returns-clause-timed : goal.returns-clause-timed
returns-clause-timed c = subst (λ (xs : List rust.FolderEntry). AreTimed (kept c.args.online (map seen_of xs))) (take_all c.loop-node.node-index c.args.seen.now c.loop-node-test.false) c.loop-node.invariant.timed

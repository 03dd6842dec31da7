use Rattle.std.proofs.Common.{◌≡◌, ◌∙◌, sym, ap, arith, List, ◌++◌, ◌∷◌, map, take, drop, suc, ◌-◌, option_map}
use Rattle.base_devices.specs.declared.data_folder.FolderEntry.{FolderEntry}
use Rattle.base_model.specs.Values.{manifest_of}
use Rattle.restore_steps.specs.Clearing.{without, seen_of}
use Rattle.restore_steps.proofs.Cleared.{cleared_more}
use Rattle.restore_steps.proofs.Emptied.{bare_then, spared_off, split_at}
use Rattle.restore_steps.proofs.Paths.{drop_more}
use Rattle.restore_steps.proofs.folders.folder_setup.clear.Goals as goal

pub loop-left-preserved : goal.loop-left-preserved
loop-left-preserved g c =
    let i = c.loop-left.invariant in
    let m = manifest_of c.args.manifest.now in
    let seen = c.args.seen.now in
    let k = c.loop-left.left in
    let x = c.index-seen-left.result in
    let old = (g.T.DataFolder.state c.args.tree.now).nodes in
    let mid = (g.T.DataFolder.state c.loop-left.tree).nodes in
    let is : k ≡ suc (k - 1) = omega (arith, c.loop-left-test.true) in
    let list = split_at seen_of seen (k - 1) k x is (omega (arith, i.within, c.loop-left-test.true)) c.index-seen-left.is in
    let prefix = map seen_of (take (k - 1) seen) in
    let back = map seen_of (drop k seen) in
    record {
      within = omega (arith, i.within);
      cleared = cleared_more m back (seen_of x) old mid (g.T.DataFolder.state c.clear_one.new.tree).nodes i.cleared c.in_ok-clear_one.ensures.cleared
          ∙ ap (λ (l : List FolderEntry). option_map (without m (map seen_of l)) old) (sym (drop_more seen (k - 1) k x is (omega (arith, i.within, c.loop-left-test.true)) c.index-seen-left.is));
      others = λ q spared. c.clear_one.ensures.others q (spared_off m (map seen_of seen) prefix back (seen_of x) q list spared) ∙ i.others q spared;
      control = λ was. c.clear_one.ensures.control (i.control was);
      proper = λ listed theirs. c.clear_one.ensures.proper (bare_then m (map seen_of seen) prefix back (seen_of x) old mid list listed theirs i.cleared) ∙ i.proper listed theirs;
      opened = c.clear_one.ensures.opened ∙ i.opened;
      later = omega (arith, i.later, c.clear_one.ensures.cause.later);
    }

pub returns-in_err-clear_one-clause-others : goal.returns-in_err-clear_one-clause-others
returns-in_err-clear_one-clause-others g c =
    let i = c.loop-left.invariant in
    let k = c.loop-left.left in
    let x = c.index-seen-left.result in
    let list = split_at seen_of c.args.seen.now (k - 1) k x (omega (arith, c.loop-left-test.true)) (omega (arith, i.within, c.loop-left-test.true)) c.index-seen-left.is in
    λ q spared. c.clear_one.ensures.others q (spared_off (manifest_of c.args.manifest.now) (map seen_of c.args.seen.now) (map seen_of (take (k - 1) c.args.seen.now)) (map seen_of (drop k c.args.seen.now)) (seen_of x) q list spared) ∙ i.others q spared

pub returns-in_err-clear_one-clause-proper : goal.returns-in_err-clear_one-clause-proper
returns-in_err-clear_one-clause-proper g c =
    let i = c.loop-left.invariant in
    let k = c.loop-left.left in
    let x = c.index-seen-left.result in
    let list = split_at seen_of c.args.seen.now (k - 1) k x (omega (arith, c.loop-left-test.true)) (omega (arith, i.within, c.loop-left-test.true)) c.index-seen-left.is in
    λ listed theirs.
    c.clear_one.ensures.proper
    (bare_then (manifest_of c.args.manifest.now) (map seen_of c.args.seen.now) (map seen_of (take (k - 1) c.args.seen.now)) (map seen_of (drop k c.args.seen.now)) (seen_of x) (g.T.DataFolder.state c.args.tree.now).nodes (g.T.DataFolder.state c.loop-left.tree).nodes list listed theirs i.cleared)
    ∙ i.proper listed theirs

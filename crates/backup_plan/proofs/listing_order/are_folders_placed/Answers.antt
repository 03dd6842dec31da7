use Rattle.std.proofs.Common.{refl, sym, subst, map, string_bytes}
use Rattle.base_model.specs.ManifestText.{HasItsFolders}
use Rattle.backup_plan.proofs.Lists.{no_truth, there, all_next, all_end}
use Rattle.backup_plan.proofs.listing_order.are_folders_placed.Goals as goal

pub returns-then-not-has_folders : goal.returns-then-not-has_folders
returns-then-not-has_folders c =
    let folder = c.folder-item.result in
    let here = there string_bytes c.args.folders.now c.loop-folder.folder-index folder c.loop-folder-test.true c.folder-item.is in
    (λ t. no_truth t, λ all. c.if-not-has_folders.ensures.1 (subst (HasItsFolders (map string_bytes c.args.folders.now)) (sym c.deref.ensures) (all (string_bytes folder) here)))

pub loop-folder-preserved : goal.loop-folder-preserved
loop-folder-preserved c = all_next string_bytes c.args.folders.now c.loop-folder.folder-index c.folder-item.result c.loop-folder-test.true c.folder-item.is (HasItsFolders (map string_bytes c.args.folders.now)) c.loop-folder.invariant (subst (HasItsFolders (map string_bytes c.args.folders.now)) c.deref.ensures (c.if-not-has_folders.ensures.0 refl))

pub returns : goal.returns
returns c = (λ t. all_end string_bytes c.args.folders.now c.loop-folder.folder-index (HasItsFolders (map string_bytes c.args.folders.now)) c.loop-folder-test.false c.loop-folder.invariant, λ all. refl)

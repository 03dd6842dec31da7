use Rattle.std.proofs.Common.{rules, ◌≡◌, ◌∙◌, sym, subst}
use Rattle.std.specs.Prelude.{string_bytes}
use Rattle.base_devices.specs.Content.{SameBut}
use Rattle.base_model.specs.Text.{Text}
use Rattle.cmd_archive_get.specs.declared.served_file.Copied.{Copied}
use Rattle.cmd_archive_get.specs.declared.served_file.Copied.TheVariants.{Whole}
use Rattle.cmd_archive_get.specs.Serving.{IsBegun, CopiedOf, AreStoredAt}
use Rattle.cmd_archive_get.proofs.Passes.{same_on, changes_only, some_copy, copied_right, puts_copy, moves_copy}
use Rattle.cmd_archive_get.proofs.served_file.pass_on.Goals as goal

pub returns-in-Err-clause-changes : goal.returns-in-Err-clause-changes
returns-in-Err-clause-changes g c =
    changes_only c.args.path.now c.as_str-name.result.now (c.as_str-name.ensures.value ∙ c.in_ok-temporary.ensures) (AreStoredAt (g.D.Disk.state c.args.repo.now).view.now (string_bytes c.args.from) c.args.sum.0) _ _
    (same_on c.as_str-name.result.now _ _ _ c.in-Err.ensures.copies c.give_up.ensures.nodes)

pub returns-in-Err-rename-clause-changes : goal.returns-in-Err-rename-clause-changes
returns-in-Err-rename-clause-changes g c =
    let name = c.as_str-name.result.now in
    let same : SameBut name (g.T.DataFolder.state c.args.tree.now).nodes (g.T.DataFolder.state c.copy_new.new.tree).nodes = some_copy c.in-Ok-Some.copied _ _ name _ _ (rw (c.in-Ok-Some.field-0-is) at c.in-Ok-Some.ensures.copies) in
    let still = subst (SameBut name (g.T.DataFolder.state c.args.tree.now).nodes) (sym c.in-Err-rename.ensures.nodes) same in
    changes_only c.args.path.now name (c.as_str-name.ensures.value ∙ c.in_ok-temporary.ensures) (AreStoredAt (g.D.Disk.state c.args.repo.now).view.now (string_bytes c.args.from) c.args.sum.0) _ _
    (same_on name _ _ _ still c.give_up-in-Err-rename.ensures.nodes)

pub returns-then-is_right-clause-passes : goal.returns-then-is_right-clause-passes
returns-then-is_right-clause-passes g c =
    let name = c.as_str-name.result.now in
    let repo = (g.D.Disk.state c.args.repo.now).view.now in
    let from = c.as_str.result.now in
    let old = (g.T.DataFolder.state c.args.tree.now).nodes in
    let mid = (g.T.DataFolder.state c.copy_new.new.tree).nodes in
    let whole : c.in-Ok-Some.copied ≡ Whole c.args.sum = search rules in
    let x = subst (λ (k : Copied). (bytes : Text) × CopiedOf k repo from bytes × IsBegun name bytes old mid) whole (rw (c.in-Ok-Some.field-0-is) at c.in-Ok-Some.ensures.copies) in (
      x.0,
      copied_right repo from (string_bytes c.args.from) c.args.sum x.0 c.as_str.ensures.value x.1,
      puts_copy c.args.path.now name (c.as_str-name.ensures.value ∙ c.in_ok-temporary.ensures) x.0 old mid _ x.2 c.in_default.ensures.nodes,
    )

pub returns-then-is_right-clause-changes : goal.returns-then-is_right-clause-changes
returns-then-is_right-clause-changes g c =
    let name = c.as_str-name.result.now in
    let repo = (g.D.Disk.state c.args.repo.now).view.now in
    let from = c.as_str.result.now in
    let old = (g.T.DataFolder.state c.args.tree.now).nodes in
    let mid = (g.T.DataFolder.state c.copy_new.new.tree).nodes in
    let whole : c.in-Ok-Some.copied ≡ Whole c.args.sum = search rules in
    let x = subst (λ (k : Copied). (bytes : Text) × CopiedOf k repo from bytes × IsBegun name bytes old mid) whole (rw (c.in-Ok-Some.field-0-is) at c.in-Ok-Some.ensures.copies) in
    moves_copy c.args.path.now name (c.as_str-name.ensures.value ∙ c.in_ok-temporary.ensures) x.0 old mid _ x.2 c.in_default.ensures.nodes (AreStoredAt repo (string_bytes c.args.from) c.args.sum.0)
    (copied_right repo from (string_bytes c.args.from) c.args.sum x.0 c.as_str.ensures.value x.1)

pub returns-in-Err-remove-clause-changes : goal.returns-in-Err-remove-clause-changes
returns-in-Err-remove-clause-changes g c =
    let name = c.as_str-name.result.now in
    let same : SameBut name (g.T.DataFolder.state c.args.tree.now).nodes (g.T.DataFolder.state c.copy_new.new.tree).nodes = some_copy c.in-Ok-Some.copied _ _ name _ _ (rw (c.in-Ok-Some.field-0-is) at c.in-Ok-Some.ensures.copies) in
    changes_only c.args.path.now name (c.as_str-name.ensures.value ∙ c.in_ok-temporary.ensures) (AreStoredAt (g.D.Disk.state c.args.repo.now).view.now (string_bytes c.args.from) c.args.sum.0) _ _
    (subst (SameBut name (g.T.DataFolder.state c.args.tree.now).nodes) (sym c.in-Err-remove.ensures.nodes) same)

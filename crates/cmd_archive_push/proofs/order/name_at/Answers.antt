use Rattle.std.proofs.Common.{◌≡◌, ◌∙◌, sym, subst, Bool, true, false}
use Rattle.base_model.specs.Text.{Text}
use Rattle.cmd_archive_push.specs.WalPath.{IsLastElement}
use Rattle.cmd_archive_push.proofs.WalNames.{outside_all}
use Rattle.cmd_archive_push.proofs.order.name_at.Goals as goal

pub returns-then-not-branch-clause-cause : goal.returns-then-not-branch-clause-cause
returns-then-not-branch-clause-cause c = (
  c.in_ok-from_str-2.ensures.ok,
  outside_all c.args.folder.now c.args.path.now c.last_element-last.result.now c.last_element-last.ensures
      (λ lies. let e : ◌≡◌ {A = Bool} false true = sym c.if-not-branch.true ∙ c.in_ok-is_path_of.ensures.1 lies in cc),
  (
    c.in-Some.name,
    subst (λ (l : Text). IsLastElement c.args.path.now l)
        (sym c.as_bytes.ensures.value ∙ c.in-Some.ensures.value) c.last_element-last.ensures,
  ),
)

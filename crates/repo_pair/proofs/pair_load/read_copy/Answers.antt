use Rattle.std.proofs.Common.{subst, ◌∙◌}
use Rattle.std.specs.Prelude.{IfOk, IfSome}
use Rattle.base_model.specs.Text.{Text}
use Rattle.repo_pair.specs.Reading.{MemberGives}
use Rattle.repo_pair.proofs.pair_load.read_copy.Goals as goal

pub returns-clause-gives : goal.returns-clause-gives
returns-clause-gives g c = subst (λ (n : Text). IfOk c.read_member.result (λ r. IfSome (g.D.Disk.state c.args.d.now).view.now (λ f. MemberGives g.I.ReadInfo.IsText g.I.ReadInfo.IsForm g.I.ReadInfo.value g.I.Info.limit f n r))) (c.as_str.ensures.value ∙ c.in_ok-copy.ensures) c.read_member.ensures.gives

pub returns-clause-valid : goal.returns-clause-valid
returns-clause-valid g c = c.read_member.ensures.valid

pub returns-clause-within : goal.returns-clause-within
returns-clause-within g c = c.read_member.ensures.within

pub returns-clause-looks : goal.returns-clause-looks
returns-clause-looks g c = c.read_member.ensures.looks

pub returns-clause-cause : goal.returns-clause-cause
returns-clause-cause g c = c.read_member.ensures.cause

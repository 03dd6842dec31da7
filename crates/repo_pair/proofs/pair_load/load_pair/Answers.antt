use Rattle.std.proofs.Common.{Option, refl, subst}
use Rattle.std.specs.Prelude.{IfSome}
use Rattle.base_devices.specs.Content.{Content}
use Rattle.base_devices.proofs.States.{looks_on}
use Rattle.base_model.specs.Names.{copy_of}
use Rattle.repo_pair.specs.Causes.{HasFault}
use Rattle.repo_pair.proofs.Causes.{cause_of}
use Rattle.repo_pair.proofs.pair_load.load_pair.Goals as goal

pub returns-in_err-value-2-clause-looks : goal.returns-in_err-value-2-clause-looks
returns-in_err-value-2-clause-looks g c = looks_on _ _ _ c.read_member.ensures.looks c.read_copy.ensures.looks

pub returns-in-Ok-2-clause-looks : goal.returns-in-Ok-2-clause-looks
returns-in-Ok-2-clause-looks g c = looks_on _ _ _ c.read_member.ensures.looks c.read_copy.ensures.looks

pub returns-in-Err-2-clause-looks : goal.returns-in-Err-2-clause-looks
returns-in-Err-2-clause-looks g c = looks_on _ _ _ c.read_member.ensures.looks c.read_copy.ensures.looks

pub returns-in-Err-2-clause-cause : goal.returns-in-Err-2-clause-cause
returns-in-Err-2-clause-cause g c =
    let copy = copy_of c.args.name.now in
    let second = subst (λ (o : Option Content). IfSome o (λ f. HasFault g.I.ReadInfo.IsText g.I.ReadInfo.IsForm g.I.Info.limit f copy c.in-Err-2.copy)) c.read_member.ensures.looks.now (rw c.in-Err-2.is at c.in_ok-value-2.ensures.gives) in
    cause_of g.I.ReadInfo.IsText g.I.ReadInfo.IsForm g.I.Info.limit _ c.args.name.now copy _ c.in-Err.fault c.in-Err-2.copy c.of_both.result c.of_both.ensures refl
    (rw c.in-Err.is at c.in_ok-value.ensures.gives)
    second

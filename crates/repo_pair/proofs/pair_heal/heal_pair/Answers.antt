use Rattle.std.proofs.Common.{Option, refl, subst}
use Rattle.base_devices.specs.Content.{Content}
use Rattle.base_devices.specs.Crash.{NowChanges, SomeOf}
use Rattle.base_model.specs.InfoText.{info_text}
use Rattle.base_model.specs.Pair.{PairIs}
use Rattle.base_model.specs.Create.{member_writes}
use Rattle.base_model.proofs.Temporary.{copy_at_lasts}
use Rattle.repo_pair.proofs.Owned.{looked_owned, owned_on}
use Rattle.repo_pair.proofs.Lasts.{members_on}
use Rattle.repo_pair.proofs.HealsPair.{no_crash, rest_then, healed_crash, healed_now, no_value, still_known}
use Rattle.repo_pair.proofs.pair_heal.heal_pair.Goals as goal

pub returns-in_err-value-clause-crash : goal.returns-in_err-value-clause-crash
returns-in_err-value-clause-crash g c = λ v has main copy. no_crash c.args.name.now (g.I.ReadInfo.text v) _ _ c.load_pair.ensures.looks.time c.load_pair.ensures.looks.now

pub returns-in_err-heal_members-clause-now_part : goal.returns-in_err-heal_members-clause-now_part
returns-in_err-heal_members-clause-now_part g c = λ v has.
    let name = c.args.name.now in
    let x = c.in_ok-value.value in
    let bytes = info_text (g.I.Info.sections x) in
    let goes = subst (λ (o : Option Content). NowChanges (SomeOf (member_writes name bytes)) o (g.D.Disk.state c.heal_members.new.d).view.now) c.load_pair.ensures.looks.now c.heal_members.ensures.now_part in
    healed_now g.I.ReadInfo.IsText g.I.ReadInfo.text g.met.I.ReadInfo.one_text name v (g.I.ReadInfo.value x) bytes _ _ (g.met.I.ReadInfo.own_text x) c.in_ok-value.ensures.found has goes

pub returns-in_err-heal_members-clause-crash : goal.returns-in_err-heal_members-clause-crash
returns-in_err-heal_members-clause-crash g c = λ v has main copy.
    let name = c.args.name.now in
    let x = c.in_ok-value.value in
    let bytes = info_text (g.I.Info.sections x) in
    let written = rest_then name bytes _ _ _ c.requires.named.lasting (copy_at_lasts name _ refl) c.load_pair.ensures.looks.time c.load_pair.ensures.looks.now c.heal_members.ensures.crash main copy in
    healed_crash g.I.ReadInfo.IsText g.I.ReadInfo.text g.met.I.ReadInfo.one_text name v (g.I.ReadInfo.value x) bytes _ _ (g.met.I.ReadInfo.own_text x) c.in_ok-value.ensures.found has written

pub returns-clause-now_part : goal.returns-clause-now_part
returns-clause-now_part g c = λ v has.
    let name = c.args.name.now in
    let x = c.in_ok-value.value in
    let bytes = info_text (g.I.Info.sections x) in
    let goes = subst (λ (o : Option Content). NowChanges (SomeOf (member_writes name bytes)) o (g.D.Disk.state c.heal_members.new.d).view.now) c.load_pair.ensures.looks.now c.heal_members.ensures.now_part in
    healed_now g.I.ReadInfo.IsText g.I.ReadInfo.text g.met.I.ReadInfo.one_text name v (g.I.ReadInfo.value x) bytes _ _ (g.met.I.ReadInfo.own_text x) c.in_ok-value.ensures.found has goes

pub returns-clause-crash : goal.returns-clause-crash
returns-clause-crash g c = λ v has main copy.
    let name = c.args.name.now in
    let x = c.in_ok-value.value in
    let bytes = info_text (g.I.Info.sections x) in
    let written = rest_then name bytes _ _ _ c.requires.named.lasting (copy_at_lasts name _ refl) c.load_pair.ensures.looks.time c.load_pair.ensures.looks.now c.heal_members.ensures.crash main copy in
    healed_crash g.I.ReadInfo.IsText g.I.ReadInfo.text g.met.I.ReadInfo.one_text name v (g.I.ReadInfo.value x) bytes _ _ (g.met.I.ReadInfo.own_text x) c.in_ok-value.ensures.found has written

pub returns-in_err-heal_members-clause-idle : goal.returns-in_err-heal_members-clause-idle
returns-in_err-heal_members-clause-idle g c = λ none some. absurd (no_value (λ f v. PairIs g.I.ReadInfo.IsText f c.args.name.now v) _ (g.I.ReadInfo.value c.in_ok-value.value) some c.in_ok-value.ensures.found none)

pub returns-in_err-heal_members-clause-known : goal.returns-in_err-heal_members-clause-known
returns-in_err-heal_members-clause-known g c = still_known (SomeOf (member_writes c.args.name.now (info_text (g.I.Info.sections c.in_ok-value.value)))) _ _ _ c.load_pair.ensures.looks.now c.heal_members.ensures.now_part

pub returns-clause-idle : goal.returns-clause-idle
returns-clause-idle g c = λ none some. absurd (no_value (λ f v. PairIs g.I.ReadInfo.IsText f c.args.name.now v) _ (g.I.ReadInfo.value c.in_ok-value.value) some c.in_ok-value.ensures.found none)

pub returns-clause-known : goal.returns-clause-known
returns-clause-known g c = still_known (SomeOf (member_writes c.args.name.now (info_text (g.I.Info.sections c.in_ok-value.value)))) _ _ _ c.load_pair.ensures.looks.now c.heal_members.ensures.now_part

pub returns-in_err-value-clause-only : goal.returns-in_err-value-clause-only
returns-in_err-value-clause-only g c = looked_owned c.args.name.now _ _ c.load_pair.ensures.looks

pub returns-in_err-heal_members-clause-only : goal.returns-in_err-heal_members-clause-only
returns-in_err-heal_members-clause-only g c = owned_on c.args.name.now _ _ _ c.load_pair.ensures.looks c.heal_members.ensures.only

pub returns-clause-only : goal.returns-clause-only
returns-clause-only g c = owned_on c.args.name.now _ _ _ c.load_pair.ensures.looks c.heal_members.ensures.only

pub returns-clause-lasts : goal.returns-clause-lasts
returns-clause-lasts g c = let name = c.args.name.now in
    members_on name (g.D.Disk.state c.args.d.now).view (g.D.Disk.state c.load_pair.new.d).view (g.D.Disk.state c.heal_members.new.d).view c.requires.named.lasting (copy_at_lasts name _ refl) c.load_pair.ensures.looks.time c.load_pair.ensures.looks.now c.in_ok-heal_members.ensures.lasts

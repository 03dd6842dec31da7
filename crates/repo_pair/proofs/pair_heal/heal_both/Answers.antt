use Rattle.std.proofs.Common.{◌∙◌}
use Rattle.std.proofs.lemmas.Result.{on_ok_weaker}
use Rattle.base_model.proofs.Temporary.{copy_at_lasts}
use Rattle.repo_pair.proofs.Owned.{none_owned, main_only, copy_only}
use Rattle.repo_pair.proofs.HealsPair.{both_crash, both_now, both_held, first_crash, first_now, none_now, no_writes}
use Rattle.repo_pair.proofs.Lasts.{both_alike}
use Rattle.repo_pair.proofs.Onward.{still, frame_on, rises_on}
use Rattle.repo_pair.proofs.Saved.{main_folder, copy_folder}
use Rattle.repo_pair.proofs.pair_heal.heal_both.Goals as goal

pub returns-in_err-copy-clause-crash : goal.returns-in_err-copy-clause-crash
returns-in_err-copy-clause-crash g c = λ main copy. no_writes c.args.name.now c.args.text.now _

pub returns-in_err-temporary-clause-crash : goal.returns-in_err-temporary-clause-crash
returns-in_err-temporary-clause-crash g c = λ main copy. no_writes c.args.name.now c.args.text.now _

pub heal_member-requires-clause-lasting : goal.heal_member-requires-clause-lasting
heal_member-requires-clause-lasting g c = c.requires.lasting

pub returns-in_err-heal_member-clause-crash : goal.returns-in_err-heal_member-clause-crash
returns-in_err-heal_member-clause-crash g c = λ main copy. first_crash c.args.name.now c.args.text.now _ _ (c.heal_member.ensures.crash main)

pub heal_member-requires-2-clause-lasting : goal.heal_member-requires-2-clause-lasting
heal_member-requires-2-clause-lasting g c = copy_at_lasts c.args.name.now _ (c.as_str-3.ensures.value ∙ c.in_ok-copy.ensures)

pub returns-clause-crash : goal.returns-clause-crash
returns-clause-crash g c =
    let is = c.as_str-3.ensures.value ∙ c.in_ok-copy.ensures in
    both_crash c.args.name.now c.args.text.now c.as_str-3.result.now is c.requires.lasting (copy_at_lasts c.args.name.now _ is) _ _ _ c.heal_member.ensures.crash c.heal_member-2.ensures.crash

pub returns-clause-now_part : goal.returns-clause-now_part
returns-clause-now_part g c =
    let is = c.as_str-3.ensures.value ∙ c.in_ok-copy.ensures in
    both_now c.args.name.now c.args.text.now c.as_str-3.result.now is c.requires.lasting (copy_at_lasts c.args.name.now _ is) _ _ _ c.heal_member.ensures.now_part c.heal_member-2.ensures.now_part

pub heal_member-requires-clause-folder : goal.heal_member-requires-clause-folder
heal_member-requires-clause-folder g c = main_folder c.args.name.now _ _ c.requires (c.as_str.ensures.value ∙ c.in_ok-temporary.ensures)

pub heal_member-requires-clause-temporary : goal.heal_member-requires-clause-temporary
heal_member-requires-clause-temporary g c = record { prefix = c.args.name.now; is = c.as_str.ensures.value ∙ c.in_ok-temporary.ensures }

pub heal_member-requires-2-clause-folder : goal.heal_member-requires-2-clause-folder
heal_member-requires-2-clause-folder g c = copy_folder c.args.name.now _ _ _ c.requires (c.as_str-2.ensures.value ∙ c.in_ok-temporary.ensures) (c.as_str-3.ensures.value ∙ c.in_ok-copy.ensures)

pub heal_member-requires-2-clause-temporary : goal.heal_member-requires-2-clause-temporary
heal_member-requires-2-clause-temporary g c = record { prefix = c.args.name.now; is = c.as_str-2.ensures.value ∙ c.in_ok-temporary.ensures }

pub returns-in_err-copy-clause-now_part : goal.returns-in_err-copy-clause-now_part
returns-in_err-copy-clause-now_part g c = none_now c.args.name.now c.args.text.now _

pub returns-in_err-copy-clause-frame : goal.returns-in_err-copy-clause-frame
returns-in_err-copy-clause-frame g c = still _

pub returns-in_err-temporary-clause-now_part : goal.returns-in_err-temporary-clause-now_part
returns-in_err-temporary-clause-now_part g c = none_now c.args.name.now c.args.text.now _

pub returns-in_err-temporary-clause-frame : goal.returns-in_err-temporary-clause-frame
returns-in_err-temporary-clause-frame g c = still _

pub returns-in_err-heal_member-clause-now_part : goal.returns-in_err-heal_member-clause-now_part
returns-in_err-heal_member-clause-now_part g c = first_now c.args.name.now c.args.text.now _ _ c.heal_member.ensures.now_part

pub returns-in_err-heal_member-clause-frame : goal.returns-in_err-heal_member-clause-frame
returns-in_err-heal_member-clause-frame g c = c.heal_member.ensures.frame

pub returns-clause-frame : goal.returns-clause-frame
returns-clause-frame g c = frame_on _ _ _ c.heal_member.ensures.frame c.heal_member-2.ensures.frame

pub returns-clause-cause : goal.returns-clause-cause
returns-clause-cause g c = λ bad. rises_on _ _ _ c.heal_member.ensures.frame.later (c.heal_member-2.ensures.cause bad)

pub returns-clause-healed_pair : goal.returns-clause-healed_pair
returns-clause-healed_pair g c =
    let is = c.as_str-3.ensures.value ∙ c.in_ok-copy.ensures in
    on_ok_weaker _ (λ held. both_held c.args.name.now c.args.text.now c.as_str-3.result.now is c.requires.lasting (copy_at_lasts c.args.name.now _ is) _ _ c.heal_member-2.ensures.unknown c.heal_member-2.ensures.now_part c.in_ok-heal_member.ensures.healed_pair held) c.heal_member-2.ensures.healed_pair

pub returns-in_err-copy-clause-only : goal.returns-in_err-copy-clause-only
returns-in_err-copy-clause-only g c = none_owned c.args.name.now _

pub returns-in_err-temporary-clause-only : goal.returns-in_err-temporary-clause-only
returns-in_err-temporary-clause-only g c = none_owned c.args.name.now _

pub returns-in_err-heal_member-clause-only : goal.returns-in_err-heal_member-clause-only
returns-in_err-heal_member-clause-only g c = main_only c.args.name.now _ (c.as_str.ensures.value ∙ c.in_ok-temporary.ensures) _ _ c.heal_member.ensures.only

pub returns-clause-only : goal.returns-clause-only
returns-clause-only g c =
    let name = c.args.name.now in
    copy_only name _ (c.as_str-2.ensures.value ∙ c.in_ok-temporary.ensures) _ _ _ _ (c.as_str-3.ensures.value ∙ c.in_ok-copy.ensures)
    (main_only name _ (c.as_str.ensures.value ∙ c.in_ok-temporary.ensures) _ _ c.heal_member.ensures.only) c.heal_member-2.ensures.only

pub returns-clause-lasts : goal.returns-clause-lasts
returns-clause-lasts g c =
    let is = c.as_str-3.ensures.value ∙ c.in_ok-copy.ensures in
    on_ok_weaker _ (λ copy. both_alike c.args.name.now c.args.text.now c.as_str-3.result.now is c.requires.lasting (copy_at_lasts c.args.name.now _ is) _ _ _ c.heal_member.ensures.crash c.heal_member-2.ensures.crash c.in_ok-heal_member.ensures.lasts copy) c.heal_member-2.ensures.lasts

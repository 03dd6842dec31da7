use Rattle.std.proofs.Common.{◌∙◌, refl}
use Rattle.base_devices.proofs.Crashes.{crash_none}
use Rattle.base_devices.proofs.Nows.{now_none}
use Rattle.base_model.specs.Create.{member_writes}
use Rattle.base_model.proofs.Temporary.{copy_at_lasts}
use Rattle.repo_pair.proofs.Owned.{none_owned, saved_only}
use Rattle.repo_pair.proofs.Onward.{still}
use Rattle.repo_pair.proofs.Saved.{main_folder, copy_folder, saved_crash, saved_whole, saved_part, saved_now}
use Rattle.repo_pair.proofs.members.save_text.Goals as goal

pub returns-in_err-copy-clause-crash : goal.returns-in_err-copy-clause-crash
returns-in_err-copy-clause-crash g c = λ main copy. crash_none (member_writes c.args.name.now c.args.text.now) _

pub returns-in_err-temporary-clause-crash : goal.returns-in_err-temporary-clause-crash
returns-in_err-temporary-clause-crash g c = λ main copy. crash_none (member_writes c.args.name.now c.args.text.now) _

pub returns-in_err-copy-clause-now_part : goal.returns-in_err-copy-clause-now_part
returns-in_err-copy-clause-now_part g c = now_none (member_writes c.args.name.now c.args.text.now) _ _ refl

pub returns-in_err-temporary-clause-now_part : goal.returns-in_err-temporary-clause-now_part
returns-in_err-temporary-clause-now_part g c = now_none (member_writes c.args.name.now c.args.text.now) _ _ refl

pub save_both-requires-clause-main_lasts : goal.save_both-requires-clause-main_lasts
save_both-requires-clause-main_lasts g c = c.requires.lasting

pub save_both-requires-clause-copy_lasts : goal.save_both-requires-clause-copy_lasts
save_both-requires-clause-copy_lasts g c = copy_at_lasts c.args.name.now _ (c.as_str-2.ensures.value ∙ c.in_ok-copy.ensures)

pub save_both-requires-clause-main_folder : goal.save_both-requires-clause-main_folder
save_both-requires-clause-main_folder g c = main_folder c.args.name.now _ _ c.requires (c.as_str.ensures.value ∙ c.in_ok-temporary.ensures)

pub save_both-requires-clause-copy_folder : goal.save_both-requires-clause-copy_folder
save_both-requires-clause-copy_folder g c = copy_folder c.args.name.now _ _ _ c.requires (c.as_str.ensures.value ∙ c.in_ok-temporary.ensures) (c.as_str-2.ensures.value ∙ c.in_ok-copy.ensures)

pub save_both-requires-clause-temporary : goal.save_both-requires-clause-temporary
save_both-requires-clause-temporary g c = record { prefix = c.args.name.now; is = c.as_str.ensures.value ∙ c.in_ok-temporary.ensures }

pub returns-in_err-copy-clause-frame : goal.returns-in_err-copy-clause-frame
returns-in_err-copy-clause-frame g c = still _

pub returns-in_err-temporary-clause-frame : goal.returns-in_err-temporary-clause-frame
returns-in_err-temporary-clause-frame g c = still _

pub returns-in_err-save_both-clause-crash : goal.returns-in_err-save_both-clause-crash
returns-in_err-save_both-clause-crash g c = saved_crash c.args.name.now c.args.text.now _ (c.as_str-2.ensures.value ∙ c.in_ok-copy.ensures) _ _ c.save_both.ensures.crash

pub returns-in_err-save_both-clause-now_part : goal.returns-in_err-save_both-clause-now_part
returns-in_err-save_both-clause-now_part g c = saved_part c.args.name.now c.args.text.now _ (c.as_str-2.ensures.value ∙ c.in_ok-copy.ensures) _ _ c.save_both.ensures.now_part

pub returns-in_err-save_both-clause-frame : goal.returns-in_err-save_both-clause-frame
returns-in_err-save_both-clause-frame g c = c.save_both.ensures.frame

pub returns-clause-crash : goal.returns-clause-crash
returns-clause-crash g c = saved_crash c.args.name.now c.args.text.now _ (c.as_str-2.ensures.value ∙ c.in_ok-copy.ensures) _ _ c.save_both.ensures.crash

pub returns-clause-now_part : goal.returns-clause-now_part
returns-clause-now_part g c = saved_part c.args.name.now c.args.text.now _ (c.as_str-2.ensures.value ∙ c.in_ok-copy.ensures) _ _ c.save_both.ensures.now_part

pub returns-clause-frame : goal.returns-clause-frame
returns-clause-frame g c = c.save_both.ensures.frame

pub returns-clause-whole : goal.returns-clause-whole
returns-clause-whole g c = saved_whole c.args.name.now c.args.text.now _ (c.as_str-2.ensures.value ∙ c.in_ok-copy.ensures) _ _ c.in_ok-save_both.ensures.whole

pub returns-clause-now_whole : goal.returns-clause-now_whole
returns-clause-now_whole g c = saved_now c.args.name.now c.args.text.now _ (c.as_str-2.ensures.value ∙ c.in_ok-copy.ensures) _ _ c.in_ok-save_both.ensures.now_whole

pub returns-in_err-copy-clause-only : goal.returns-in_err-copy-clause-only
returns-in_err-copy-clause-only g c = none_owned c.args.name.now _

pub returns-in_err-temporary-clause-only : goal.returns-in_err-temporary-clause-only
returns-in_err-temporary-clause-only g c = none_owned c.args.name.now _

pub returns-in_err-save_both-clause-only : goal.returns-in_err-save_both-clause-only
returns-in_err-save_both-clause-only g c = saved_only c.args.name.now _ _ (c.as_str.ensures.value ∙ c.in_ok-temporary.ensures) (c.as_str-2.ensures.value ∙ c.in_ok-copy.ensures) _ _ c.save_both.ensures.only

pub returns-clause-only : goal.returns-clause-only
returns-clause-only g c = saved_only c.args.name.now _ _ (c.as_str.ensures.value ∙ c.in_ok-temporary.ensures) (c.as_str-2.ensures.value ∙ c.in_ok-copy.ensures) _ _ c.save_both.ensures.only

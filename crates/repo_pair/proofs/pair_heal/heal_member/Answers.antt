use Rattle.std.proofs.Common.{◌≡◌, ◌∙◌, rules}
use Rattle.repo_pair.proofs.Owned.{looked_two, two_on}
use Rattle.repo_pair.proofs.HealsPair.{read_crash, written_crash, read_now, written_now, written_held}
use Rattle.repo_pair.proofs.Lasts.{looked_alike, written_alike}
use Rattle.repo_pair.proofs.Onward.{looked, frame_on, rises_on}
use Rattle.repo_pair.proofs.pair_heal.heal_member.Goals as goal

pub returns-in_err-holds-clause-crash : goal.returns-in_err-holds-clause-crash
returns-in_err-holds-clause-crash g c = λ synced. read_crash c.args.name.now c.args.text.now _ _ c.holds.ensures.looks.time c.holds.ensures.looks.now

pub returns-then-branch-clause-crash : goal.returns-then-branch-clause-crash
returns-then-branch-clause-crash g c = λ synced. read_crash c.args.name.now c.args.text.now _ _ c.holds.ensures.looks.time c.holds.ensures.looks.now

pub returns-in_err-replace-clause-crash : goal.returns-in_err-replace-clause-crash
returns-in_err-replace-clause-crash g c = written_crash c.args.name.now c.args.text.now _ _ _ c.requires.lasting c.holds.ensures.looks.time c.holds.ensures.looks.now c.replace.ensures.crash

pub returns-clause-crash : goal.returns-clause-crash
returns-clause-crash g c = written_crash c.args.name.now c.args.text.now _ _ _ c.requires.lasting c.holds.ensures.looks.time c.holds.ensures.looks.now c.replace.ensures.crash

pub returns-clause-healed_pair : goal.returns-clause-healed_pair
returns-clause-healed_pair g c = written_held c.args.name.now c.args.text.now _ _ c.requires.lasting c.replace.ensures.unknown c.in_ok-replace.ensures.now_whole

pub returns-in_err-holds-clause-now_part : goal.returns-in_err-holds-clause-now_part
returns-in_err-holds-clause-now_part g c = read_now c.args.name.now c.args.text.now _ _ c.holds.ensures.looks.now

pub returns-in_err-holds-clause-unknown : goal.returns-in_err-holds-clause-unknown
returns-in_err-holds-clause-unknown g c = λ is. c.holds.ensures.looks.now ∙ is

pub returns-in_err-holds-clause-frame : goal.returns-in_err-holds-clause-frame
returns-in_err-holds-clause-frame g c = looked _ _ c.holds.ensures.looks

pub returns-then-branch-clause-now_part : goal.returns-then-branch-clause-now_part
returns-then-branch-clause-now_part g c = read_now c.args.name.now c.args.text.now _ _ c.holds.ensures.looks.now

pub returns-then-branch-clause-unknown : goal.returns-then-branch-clause-unknown
returns-then-branch-clause-unknown g c = λ is. c.holds.ensures.looks.now ∙ is

pub returns-then-branch-clause-frame : goal.returns-then-branch-clause-frame
returns-then-branch-clause-frame g c = looked _ _ c.holds.ensures.looks

pub returns-in_err-replace-clause-now_part : goal.returns-in_err-replace-clause-now_part
returns-in_err-replace-clause-now_part g c = written_now c.args.name.now c.args.text.now _ _ _ c.holds.ensures.looks.now c.replace.ensures.now_part

pub returns-in_err-replace-clause-unknown : goal.returns-in_err-replace-clause-unknown
returns-in_err-replace-clause-unknown g c = λ is. c.replace.ensures.unknown (c.holds.ensures.looks.now ∙ is)

pub returns-in_err-replace-clause-frame : goal.returns-in_err-replace-clause-frame
returns-in_err-replace-clause-frame g c = frame_on _ _ _ (looked _ _ c.holds.ensures.looks) c.replace.ensures.frame

pub returns-clause-now_part : goal.returns-clause-now_part
returns-clause-now_part g c = written_now c.args.name.now c.args.text.now _ _ _ c.holds.ensures.looks.now c.replace.ensures.now_part

pub returns-clause-unknown : goal.returns-clause-unknown
returns-clause-unknown g c = λ is. c.replace.ensures.unknown (c.holds.ensures.looks.now ∙ is)

pub returns-clause-frame : goal.returns-clause-frame
returns-clause-frame g c = frame_on _ _ _ (looked _ _ c.holds.ensures.looks) c.replace.ensures.frame

pub returns-in_err-replace-clause-cause : goal.returns-in_err-replace-clause-cause
returns-in_err-replace-clause-cause g c = λ bad. rises_on _ _ _ c.holds.ensures.looks.later (c.in_err-replace.ensures.cause (search rules))

pub returns-in_err-holds-clause-only : goal.returns-in_err-holds-clause-only
returns-in_err-holds-clause-only g c = looked_two c.args.temporary.now c.args.name.now _ _ c.holds.ensures.looks

pub returns-then-branch-clause-only : goal.returns-then-branch-clause-only
returns-then-branch-clause-only g c = looked_two c.args.temporary.now c.args.name.now _ _ c.holds.ensures.looks

pub returns-in_err-replace-clause-only : goal.returns-in_err-replace-clause-only
returns-in_err-replace-clause-only g c = two_on c.args.temporary.now c.args.name.now _ _ _ c.holds.ensures.looks c.replace.ensures.only

pub returns-clause-only : goal.returns-clause-only
returns-clause-only g c = two_on c.args.temporary.now c.args.name.now _ _ _ c.holds.ensures.looks c.replace.ensures.only

pub returns-then-branch-clause-lasts : goal.returns-then-branch-clause-lasts
returns-then-branch-clause-lasts g c = λ synced some alike. looked_alike (λ n. n ≡ c.args.name.now) _ _ c.holds.ensures.looks.time c.holds.ensures.looks.now alike

pub returns-clause-lasts : goal.returns-clause-lasts
returns-clause-lasts g c = λ synced some alike. written_alike c.args.name.now c.args.text.now c.requires.lasting _ _ _ c.holds.ensures.looks.time c.holds.ensures.looks.now c.in_ok-replace.ensures.whole synced some

use Rattle.std.proofs.Common.{◌≡◌, ◌∙◌, subst, false}
use Rattle.std.specs.Prelude.{IfSome}
use Rattle.base_devices.specs.Moments.{is_unsynced}
use Rattle.base_devices.specs.Crash.{Crash, NowChanges, SomeOf}
use Rattle.base_model.specs.Text.{Text}
use Rattle.base_model.specs.Names.{archive_info, copy_of}
use Rattle.base_model.specs.Create.{member_writes}
use Rattle.base_model.specs.Values.{archive_info_of}
use Rattle.repo_pair.proofs.HealsPair.{no_writes}
use Rattle.repo_stanza.specs.HealingPair.{archive_text, HoldBoth}
use Rattle.repo_pair.proofs.Owned.{none_owned, owned_as}
use Rattle.repo_stanza.proofs.Saves.{archive_name_is}
use Rattle.repo_stanza.proofs.keeping.keep_archive.Goals as goal

pub heal_members-requires-clause-named : goal.heal_members-requires-clause-named
heal_members-requires-clause-named g c = archive_name_is c.args.stanza.now _ (c.as_str.ensures.value ∙ c.in_ok-name.ensures)

pub returns-in_err-name-clause-crash : goal.returns-in_err-name-clause-crash
returns-in_err-name-clause-crash g c = λ main copy. no_writes (archive_info c.args.stanza.now) (archive_text (archive_info_of c.args.value.now)) _

pub returns-in_err-heal_members-clause-crash : goal.returns-in_err-heal_members-clause-crash
returns-in_err-heal_members-clause-crash g c =
    subst (λ (n : Text). is_unsynced (g.D.Disk.state c.args.d.now).view n ≡ false → is_unsynced (g.D.Disk.state c.args.d.now).view (copy_of n) ≡ false → Crash (SomeOf (member_writes n (archive_text (archive_info_of c.args.value.now)))) (g.D.Disk.state c.args.d.now).view (g.D.Disk.state c.heal_members.new.d).view) (c.as_str.ensures.value ∙ c.in_ok-name.ensures) c.heal_members.ensures.crash

pub returns-clause-crash : goal.returns-clause-crash
returns-clause-crash g c =
    subst (λ (n : Text). is_unsynced (g.D.Disk.state c.args.d.now).view n ≡ false → is_unsynced (g.D.Disk.state c.args.d.now).view (copy_of n) ≡ false → Crash (SomeOf (member_writes n (archive_text (archive_info_of c.args.value.now)))) (g.D.Disk.state c.args.d.now).view (g.D.Disk.state c.heal_members.new.d).view) (c.as_str.ensures.value ∙ c.in_ok-name.ensures) c.heal_members.ensures.crash

pub returns-in_err-heal_members-clause-now_part : goal.returns-in_err-heal_members-clause-now_part
returns-in_err-heal_members-clause-now_part g c =
    subst (λ (n : Text). NowChanges (SomeOf (member_writes n (archive_text (archive_info_of c.args.value.now)))) (g.D.Disk.state c.args.d.now).view.now (g.D.Disk.state c.heal_members.new.d).view.now) (c.as_str.ensures.value ∙ c.in_ok-name.ensures) c.heal_members.ensures.now_part

pub returns-clause-now_part : goal.returns-clause-now_part
returns-clause-now_part g c =
    subst (λ (n : Text). NowChanges (SomeOf (member_writes n (archive_text (archive_info_of c.args.value.now)))) (g.D.Disk.state c.args.d.now).view.now (g.D.Disk.state c.heal_members.new.d).view.now) (c.as_str.ensures.value ∙ c.in_ok-name.ensures) c.heal_members.ensures.now_part

pub returns-clause-healed_pair : goal.returns-clause-healed_pair
returns-clause-healed_pair g c =
    subst (λ (n : Text). IfSome (g.D.Disk.state c.heal_members.new.d).view.now (HoldBoth n (archive_text (archive_info_of c.args.value.now)))) (c.as_str.ensures.value ∙ c.in_ok-name.ensures) c.in_ok-heal_members.ensures.healed_pair

pub returns-in_err-name-clause-only : goal.returns-in_err-name-clause-only
returns-in_err-name-clause-only g c = none_owned (archive_info c.args.stanza.now) _

pub returns-in_err-heal_members-clause-only : goal.returns-in_err-heal_members-clause-only
returns-in_err-heal_members-clause-only g c = owned_as (archive_info c.args.stanza.now) _ _ _ (c.as_str.ensures.value ∙ c.in_ok-name.ensures) c.heal_members.ensures.only

pub returns-clause-only : goal.returns-clause-only
returns-clause-only g c = owned_as (archive_info c.args.stanza.now) _ _ _ (c.as_str.ensures.value ∙ c.in_ok-name.ensures) c.heal_members.ensures.only

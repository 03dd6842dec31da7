use Rattle.std.proofs.Common.{◌∙◌}
use Rattle.base_devices.proofs.Crashes.{crash_none}
use Rattle.base_model.specs.Names.{archive_info}
use Rattle.base_model.specs.Create.{member_writes, first_archive_text}
use Rattle.repo_pair.proofs.Owned.{none_owned, owned_as}
use Rattle.repo_stanza.proofs.Saves.{archive_name_is, archive_valid, archive_within, archive_spelled, part_as, whole_as, crash_as, ends_as}
use Rattle.repo_stanza.proofs.stanza_save.save_archive.Goals as goal

pub save_pair-requires : goal.save_pair-requires
save_pair-requires g c = record {
  named = archive_name_is c.args.stanza.now _ (c.as_str.ensures.value ∙ c.in_ok-name.ensures);
  valid = archive_valid c.args.cluster.now c.requires.is_cluster c.requires.first _ c.in_ok-value.ensures;
  within = archive_within c.args.cluster.now _ c.requires.is_cluster c.requires.first c.in_ok-value.ensures;
}

pub returns-in_err-save_pair-clause-now_part : goal.returns-in_err-save_pair-clause-now_part
returns-in_err-save_pair-clause-now_part g c = part_as _ _ _ _ _ _ (c.as_str.ensures.value ∙ c.in_ok-name.ensures) (archive_spelled c.args.cluster.now _ c.in_ok-value.ensures) c.save_pair.ensures.now_part

pub returns-clause-now_part : goal.returns-clause-now_part
returns-clause-now_part g c = part_as _ _ _ _ _ _ (c.as_str.ensures.value ∙ c.in_ok-name.ensures) (archive_spelled c.args.cluster.now _ c.in_ok-value.ensures) c.save_pair.ensures.now_part

pub returns-clause-now_whole : goal.returns-clause-now_whole
returns-clause-now_whole g c = whole_as _ _ _ _ _ _ (c.as_str.ensures.value ∙ c.in_ok-name.ensures) (archive_spelled c.args.cluster.now _ c.in_ok-value.ensures) c.in_ok-save_pair.ensures.now_whole

pub returns-in_err-name-clause-crash : goal.returns-in_err-name-clause-crash
returns-in_err-name-clause-crash g c = λ main copy. crash_none (member_writes (archive_info c.args.stanza.now) (first_archive_text c.args.cluster.now)) _

pub returns-in_err-value-clause-crash : goal.returns-in_err-value-clause-crash
returns-in_err-value-clause-crash g c = λ main copy. crash_none (member_writes (archive_info c.args.stanza.now) (first_archive_text c.args.cluster.now)) _

pub returns-in_err-save_pair-clause-crash : goal.returns-in_err-save_pair-clause-crash
returns-in_err-save_pair-clause-crash g c = crash_as _ _ _ _ _ _ (c.as_str.ensures.value ∙ c.in_ok-name.ensures) (archive_spelled c.args.cluster.now _ c.in_ok-value.ensures) c.save_pair.ensures.crash

pub returns-clause-crash : goal.returns-clause-crash
returns-clause-crash g c = crash_as _ _ _ _ _ _ (c.as_str.ensures.value ∙ c.in_ok-name.ensures) (archive_spelled c.args.cluster.now _ c.in_ok-value.ensures) c.save_pair.ensures.crash

pub returns-clause-whole : goal.returns-clause-whole
returns-clause-whole g c = ends_as _ _ _ _ _ _ (c.as_str.ensures.value ∙ c.in_ok-name.ensures) (archive_spelled c.args.cluster.now _ c.in_ok-value.ensures) c.in_ok-save_pair.ensures.whole

pub returns-in_err-name-clause-only : goal.returns-in_err-name-clause-only
returns-in_err-name-clause-only g c = none_owned (archive_info c.args.stanza.now) _

pub returns-in_err-value-clause-only : goal.returns-in_err-value-clause-only
returns-in_err-value-clause-only g c = none_owned (archive_info c.args.stanza.now) _

pub returns-in_err-save_pair-clause-only : goal.returns-in_err-save_pair-clause-only
returns-in_err-save_pair-clause-only g c = owned_as (archive_info c.args.stanza.now) _ _ _ (c.as_str.ensures.value ∙ c.in_ok-name.ensures) c.save_pair.ensures.only

pub returns-clause-only : goal.returns-clause-only
returns-clause-only g c = owned_as (archive_info c.args.stanza.now) _ _ _ (c.as_str.ensures.value ∙ c.in_ok-name.ensures) c.save_pair.ensures.only

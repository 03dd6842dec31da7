use Rattle.std.proofs.Common.{◌∙◌}
use Rattle.base_devices.proofs.Crashes.{crash_none}
use Rattle.base_model.specs.Names.{backup_info}
use Rattle.base_model.specs.Values.{backup_info_of}
use Rattle.base_model.specs.Create.{member_writes}
use Rattle.repo_stanza.proofs.Saves.{backup_name_is, part_as, whole_as, crash_as, ends_as}
use Rattle.expire_make.specs.Planning.{list_text}
use Rattle.expire_make.proofs.Spelled.{spelled, fits}
use Rattle.expire_make.proofs.backup_list.save_left.Goals as goal

pub save_pair-requires : goal.save_pair-requires
save_pair-requires g c = record {
  named = backup_name_is c.args.stanza.now _ (c.as_str.ensures.value ∙ c.in_ok-name.ensures);
  valid = c.requires.valid;
  within = fits (backup_info_of c.args.left.now) c.requires.within;
}

pub returns-in_err-save_pair-clause-now_part : goal.returns-in_err-save_pair-clause-now_part
returns-in_err-save_pair-clause-now_part g c = part_as _ _ _ _ _ _ (c.as_str.ensures.value ∙ c.in_ok-name.ensures) (spelled (backup_info_of c.args.left.now)) c.save_pair.ensures.now_part

pub returns-clause-now_part : goal.returns-clause-now_part
returns-clause-now_part g c = part_as _ _ _ _ _ _ (c.as_str.ensures.value ∙ c.in_ok-name.ensures) (spelled (backup_info_of c.args.left.now)) c.save_pair.ensures.now_part

pub returns-clause-now_whole : goal.returns-clause-now_whole
returns-clause-now_whole g c = whole_as _ _ _ _ _ _ (c.as_str.ensures.value ∙ c.in_ok-name.ensures) (spelled (backup_info_of c.args.left.now)) c.in_ok-save_pair.ensures.now_whole

pub returns-in_err-name-clause-crash : goal.returns-in_err-name-clause-crash
returns-in_err-name-clause-crash g c = λ main copy. crash_none (member_writes (backup_info c.args.stanza.now) (list_text (backup_info_of c.args.left.now))) _

pub returns-in_err-save_pair-clause-crash : goal.returns-in_err-save_pair-clause-crash
returns-in_err-save_pair-clause-crash g c = crash_as _ _ _ _ _ _ (c.as_str.ensures.value ∙ c.in_ok-name.ensures) (spelled (backup_info_of c.args.left.now)) c.save_pair.ensures.crash

pub returns-clause-crash : goal.returns-clause-crash
returns-clause-crash g c = crash_as _ _ _ _ _ _ (c.as_str.ensures.value ∙ c.in_ok-name.ensures) (spelled (backup_info_of c.args.left.now)) c.save_pair.ensures.crash

pub returns-clause-whole : goal.returns-clause-whole
returns-clause-whole g c = ends_as _ _ _ _ _ _ (c.as_str.ensures.value ∙ c.in_ok-name.ensures) (spelled (backup_info_of c.args.left.now)) c.in_ok-save_pair.ensures.whole

use Rattle.std.proofs.Common.{◌∙◌, refl}
use Rattle.base_devices.proofs.Crashes.{crash_none}
use Rattle.base_model.specs.Names.{archive_info}
use Rattle.base_model.specs.Create.{member_writes}
use Rattle.repo_stanza.proofs.Saves.{archive_name_is, whole_as}
use Rattle.repo_stanza.proofs.text_save.save_archive_text.Goals as goal

pub save_text-requires : goal.save_text-requires
save_text-requires g c = archive_name_is c.args.stanza.now _ (c.as_str.ensures.value ∙ c.in_ok-name.ensures)

pub returns-in_err-name-clause-crash : goal.returns-in_err-name-clause-crash
returns-in_err-name-clause-crash g c = λ main copy. crash_none (member_writes (archive_info c.args.stanza.now) c.args.text.now) _

pub returns-clause-now_whole : goal.returns-clause-now_whole
returns-clause-now_whole g c = whole_as _ _ _ _ _ _ (c.as_str.ensures.value ∙ c.in_ok-name.ensures) refl c.in_ok-save_text.ensures.now_whole

use Rattle.std.proofs.Common.{◌∙◌, refl}
use Rattle.base_devices.proofs.Crashes.{crash_none}
use Rattle.base_model.specs.Names.{backup_info}
use Rattle.base_model.specs.Create.{member_writes}
use Rattle.repo_stanza.proofs.Saves.{backup_name_is, whole_as}
use Rattle.repo_stanza.proofs.text_save.save_backup_text.Goals as goal

pub save_text-requires : goal.save_text-requires
save_text-requires g c = backup_name_is c.args.stanza.now _ (c.as_str.ensures.value ∙ c.in_ok-name.ensures)

pub returns-in_err-name-clause-crash : goal.returns-in_err-name-clause-crash
returns-in_err-name-clause-crash g c = λ main copy. crash_none (member_writes (backup_info c.args.stanza.now) c.args.text.now) _

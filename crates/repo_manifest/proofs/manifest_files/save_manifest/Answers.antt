use Rattle.std.proofs.Common.{◌∙◌}
use Rattle.base_devices.proofs.Crashes.{crash_none}
use Rattle.base_model.specs.Create.{member_writes}
use Rattle.base_model.specs.Values.{manifest_of}
use Rattle.repo_manifest.specs.Keeping.{manifest_text, own_name}
use Rattle.repo_manifest.proofs.MemberNames.{manifest_named}
use Rattle.repo_pair.proofs.Owned.{none_owned, owned_as}
use Rattle.repo_manifest.proofs.manifest_files.save_manifest.Goals as goal

pub returns-in_err-name-clause-crash : goal.returns-in_err-name-clause-crash
returns-in_err-name-clause-crash g c = λ main copy. crash_none (member_writes (own_name c.args.stanza.now c.args.m.now) (manifest_text (manifest_of c.args.m.now))) _

pub returns-in_err-text-clause-crash : goal.returns-in_err-text-clause-crash
returns-in_err-text-clause-crash g c = λ main copy. crash_none (member_writes (own_name c.args.stanza.now c.args.m.now) (manifest_text (manifest_of c.args.m.now))) _

pub returns-then-length-gt-LIMIT-clause-crash : goal.returns-then-length-gt-LIMIT-clause-crash
returns-then-length-gt-LIMIT-clause-crash g c = λ main copy. crash_none (member_writes (own_name c.args.stanza.now c.args.m.now) (manifest_text (manifest_of c.args.m.now))) _

pub save_text-requires : goal.save_text-requires
save_text-requires g c = manifest_named c.args.stanza.now c.args.m.now.label _ (c.as_str.ensures.value ∙ c.in_ok-name.ensures)

pub returns-in_err-name-clause-only : goal.returns-in_err-name-clause-only
returns-in_err-name-clause-only g c = none_owned (own_name c.args.stanza.now c.args.m.now) _

pub returns-in_err-text-clause-only : goal.returns-in_err-text-clause-only
returns-in_err-text-clause-only g c = none_owned (own_name c.args.stanza.now c.args.m.now) _

pub returns-then-length-gt-LIMIT-clause-only : goal.returns-then-length-gt-LIMIT-clause-only
returns-then-length-gt-LIMIT-clause-only g c = none_owned (own_name c.args.stanza.now c.args.m.now) _

pub returns-in_err-save_text-clause-only : goal.returns-in_err-save_text-clause-only
returns-in_err-save_text-clause-only g c = owned_as (own_name c.args.stanza.now c.args.m.now) _ _ _ (c.as_str.ensures.value ∙ c.in_ok-name.ensures) c.save_text.ensures.only

pub returns-clause-only : goal.returns-clause-only
returns-clause-only g c = owned_as (own_name c.args.stanza.now c.args.m.now) _ _ _ (c.as_str.ensures.value ∙ c.in_ok-name.ensures) c.save_text.ensures.only

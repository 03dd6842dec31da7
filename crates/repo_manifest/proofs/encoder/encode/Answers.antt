use Rattle.std.proofs.Common.{List, ap, sym, ◌∙◌, subst, ◌≡◌}
use Rattle.std.specs.Prelude.{IfOk}
use Rattle.base_model.specs.InfoText.{Section, IsInfo, info_text}
use Rattle.base_model.specs.Values.{manifest_of}
use Rattle.repo_ini.specs.Parts.{sections_of}
use Rattle.repo_manifest.proofs.ManifestRules.{manifest_is_info}
use Rattle.repo_manifest.proofs.encoder.encode.Goals as goal

pub write_info_text-requires : goal.write_info_text-requires
write_info_text-requires c = subst IsInfo (sym (ap sections_of c.deref.ensures.value ∙ c.in_ok-parts.ensures)) (manifest_is_info (manifest_of c.args.m.now) c.requires)

pub returns : goal.returns
returns c = subst (λ (ss : List Section). IfOk c.write_info_text.result (λ text. text.items ≡ info_text ss)) (ap sections_of c.deref.ensures.value ∙ c.in_ok-parts.ensures) c.write_info_text.ensures

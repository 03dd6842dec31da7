use Rattle.std.proofs.Common.{◌++◌, true, sym, ap, ◌∙◌}
use Rattle.serde_json.specs.Written.{members_text}
use Rattle.base_model.specs.InfoText.{sections_from}
use Rattle.repo_ini.specs.Parts.{sections_of}
use Rattle.repo_ini.proofs.Heads.{signed_head}
use Rattle.repo_ini.proofs.write.signed.Goals as goal

pub returns : goal.returns
returns c =
    let ss = sections_of c.args.parts.now in
    c.in_ok-add_sections.ensures.json ∙ ap (λ t. t ++ members_text true (sections_from ss)) (c.in_ok-json.ensures.items ∙ c.as_slice.ensures) ∙ sym (signed_head ss)

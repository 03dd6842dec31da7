use Rattle.std.proofs.Common.{◌≡◌, [], ◌∷◌, ◌++◌, sym, ap, ◌∙◌, true, string_bytes}
use Rattle.sha1.specs.Sha1.{sha1}
use Rattle.base_text.specs.Sum.{sum_text}
use Rattle.std.specs.List.{flat_map}
use Rattle.serde_json.specs.Written.{members_text}
use Rattle.base_model.specs.InfoText.{section_text, sections_from, text_with, signed_text}
use Rattle.repo_ini.specs.Parts.{sections_of}
use Rattle.repo_ini.proofs.Heads.{text_is, signed_head}
use Rattle.repo_ini.proofs.Rules.{no_floats}
use Rattle.repo_ini.proofs.write.write_info_text.Goals as goal

pub add_sections-requires : goal.add_sections-requires
add_sections-requires c = no_floats c.args.parts.now c.requires

pub returns : goal.returns
returns c =
    let ss = sections_of c.args.parts.now in
    let start = c.in_ok-text.ensures.items ∙ c.as_slice.ensures in
    let start_json = c.in_ok-json.ensures.items ∙ c.as_slice-2.ensures in
    let json : c.deref.result.now ≡ signed_text ss = c.deref.ensures.value ∙ c.in_ok-add_sections.ensures.json ∙ ap (λ t. t ++ members_text true (sections_from ss)) start_json ∙ sym (signed_head ss) in
    let digits : string_bytes c.in_ok-sum.sum ≡ sum_text (sha1 (signed_text ss)) = c.in_ok-sum.ensures ∙ ap sum_text (c.of.ensures ∙ ap sha1 json) in
    let text = text_is ss (string_bytes c.in_ok-sum.sum) _ (c.in_ok-add_sections.ensures.text ∙ ap (λ t. t ++ flat_map section_text ss) start) in
    let prefix = c.in_ok-extend_from_slice.ensures.items ∙ ap (λ t. c.add_sections.new.text.items ++ t) c.as_slice-3.ensures in
    let more = c.in_ok-extend_from_slice-2.ensures.items ∙ ap (λ t. c.extend_from_slice.new.self.items ++ t) c.as_bytes.ensures.value ∙ ap (λ t. t ++ string_bytes c.in_ok-sum.sum) prefix in
    c.in_ok-extend_from_slice-3.ensures.items ∙ ap (λ t. t ++ 34 ∷ 10 ∷ []) more ∙ text ∙ ap (λ d. text_with d ss) digits

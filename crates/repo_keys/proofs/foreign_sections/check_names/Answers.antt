use Rattle.base_model.specs.InfoText.{IsSection}
use Rattle.repo_ini.specs.Parts.{section_of, sections_of}
use Rattle.repo_keys.specs.Foreign.{names_of, IsForeignKey}
use Rattle.repo_keys.proofs.Forms.{form_as}
use Rattle.repo_keys.proofs.Numbers.{all_in}
use Rattle.repo_keys.proofs.foreign_sections.check_names.Goals as goal

pub first_key-requires : goal.first_key-requires
first_key-requires c = all_in IsSection (sections_of c.args.parts.now) (section_of c.in-Some.part.now) c.requires.sections c.in-Some.ensures.some.0

pub returns-in-Some-clause-fault : goal.returns-in-Some-clause-fault
returns-in-Some-clause-fault c =
    let ss = sections_of c.args.parts.now in
    let names = names_of c.args.names.now in
    let s = section_of c.in-Some.part.now in
    let key = c.first_key.ensures in
    let is : IsForeignKey names ss c.as_str.result.now c.first_key.result.now = record {
      at = s;
      foreign = c.in-Some.ensures.some;
      named = c.as_str.ensures.value;
      value = key.0;
      holds = key.1;
    } in
    form_as c.form.result c.as_str.result.now c.first_key.result.now (IsForeignKey names ss) c.form.ensures is

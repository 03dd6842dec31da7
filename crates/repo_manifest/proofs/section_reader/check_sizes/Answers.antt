use Rattle.std.proofs.Common.{map, refl, ap}
use Rattle.base_model.specs.ManifestText.{data_path}
use Rattle.base_model.specs.Values.{file_entry_of}
use Rattle.repo_ini.specs.Parts.{sections_of}
use Rattle.repo_manifest.specs.Sections.{target_file}
use Rattle.repo_manifest.specs.ManifestForm.{IsManifestForm}
use Rattle.repo_keys.proofs.Forms.{form_as}
use Rattle.repo_manifest.proofs.Pasts.{past_form}
use Rattle.repo_manifest.proofs.section_reader.check_sizes.Goals as goal

pub returns-in-Some-clause-fault : goal.returns-in-Some-clause-fault
returns-in-Some-clause-fault c =
    let ss = sections_of c.args.parts.now in
    let files = map file_entry_of c.args.files.now in
    let file = c.in-Some.file.now in
    let key = data_path c.as_str.result.now in
    let form = past_form ss c.requires.info files c.requires.known (file_entry_of file) c.in-Some.ensures.some target_file key refl (ap data_path c.as_str.ensures.value) in
    form_as c.fault_at.result target_file key (IsManifestForm ss) c.fault_at.ensures form

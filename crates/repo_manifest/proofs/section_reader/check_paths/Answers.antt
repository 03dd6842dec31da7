use Rattle.std.proofs.Common.{map, string_bytes}
use Rattle.std.proofs.lemmas.Result.{err_from_is_err_and}
use Rattle.base_model.specs.Values.{file_entry_of}
use Rattle.repo_ini.specs.Parts.{sections_of}
use Rattle.repo_manifest.specs.Sections.{IsUnplacedFile, IsUnplacedFolder}
use Rattle.repo_manifest.specs.ManifestForm.{IsManifestForm}
use Rattle.repo_keys.proofs.Forms.{form_wide, err_wide}
use Rattle.repo_manifest.proofs.Wrongs.{form_of, lacking_file, lacking_folder}
use Rattle.repo_manifest.proofs.section_reader.check_paths.Goals as goal

pub returns-in_err-check_files-clause-fault : goal.returns-in_err-check_files-clause-fault
returns-in_err-check_files-clause-fault c =
    let ss = sections_of c.args.parts.now in
    let files = map file_entry_of c.args.files.now in
    let folders = map string_bytes c.args.folders.now in
    let p = err_from_is_err_and c.from_residual.result c.from_residual.ensures.1 in
    rw (p.1, p.2)
    (form_wide c.in_err-check_files.field-0.0 (IsUnplacedFile files folders) (IsManifestForm ss) c.in_err-check_files.ensures.fault
    (λ s k h. form_of ss s k (lacking_file ss c.requires.info folders c.requires.folders files c.requires.files s k h)))

pub returns-clause-fault : goal.returns-clause-fault
returns-clause-fault c =
    let ss = sections_of c.args.parts.now in
    let folders = map string_bytes c.args.folders.now in
    err_wide c.check_folders.result (IsUnplacedFolder folders) (IsManifestForm ss) c.check_folders.ensures.fault
    (λ s k h. form_of ss s k (lacking_folder ss c.requires.info folders c.requires.folders s k h))

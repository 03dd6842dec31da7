use Rattle.std.proofs.Common.{List, String, Global, map, string_bytes, sym, ap, ◌∙◌, subst}
use Rattle.std.specs.Prelude.{IfSome, Bool}
use Rattle.std.specs.List.{AllByRecursion}
use Rattle.base_model.specs.declared.files.FileEntry as rust
use Rattle.base_model.specs.InfoText.{Section}
use Rattle.base_model.specs.InfoFiles.{IsLabel}
use Rattle.base_model.specs.Fields.{section}
use Rattle.base_model.specs.ManifestText.{file_field, folder_field}
use Rattle.base_model.specs.Values.{Manifest, file_entry_of, manifest_of}
use Rattle.repo_ini.specs.Parts.{sections_of}
use Rattle.std.specs.Prelude.{codes, ◌∷◌, ◌++◌}
use Rattle.repo_manifest.specs.Head.{choice_fields}
use Rattle.repo_manifest.specs.Sections.{target_file, target_path, root_field}
use Rattle.repo_manifest.proofs.Named.{backup_section, db_section, option_section, folder_section, sections_are}
use Rattle.repo_manifest.proofs.PartLists.{five_sections, references_of}
use Rattle.repo_manifest.proofs.encoder.parts_of.Goals as goal

pub add_files-requires : goal.add_files-requires
add_files-requires c =
    let m = c.args.m.now in
    subst (λ (es : List rust.FileEntry). AllByRecursion (λ e. IfSome e.reference IsLabel) es) (sym c.deref.ensures.value) (references_of (map string_bytes m.folders.items) m.files.items c.requires.files)

pub returns : goal.returns
returns c =
    let m : Manifest = manifest_of c.args.m.now in
    let files = c.in_ok-add_files.ensures ∙ ap (λ (es : List rust.FileEntry). sections_of c.push-3.new.self.items ++ section target_file (map file_field (map file_entry_of es))) c.deref.ensures.value in
    let choices = c.in_ok-choices_part.ensures ∙ ap (λ (b : Bool). let s : Section = record { name = codes "backup:option"; keys = choice_fields m.choices b } in s) c.is_some.ensures in
    let folders = c.in_ok-folders_part.ensures ∙ ap (λ (ps : List (String Global)). let s : Section = record { name = target_path; keys = root_field ∷ map folder_field (map string_bytes ps) } in s) c.deref-2.ensures.value in
    five_sections _ _ _ _ _ _ _ _ _ _ (section target_file (map file_field m.files)) (backup_section m) (db_section m) (option_section m) (folder_section m)
    c.new-parts.ensures.items c.in_ok-push.ensures.items c.in_ok-push-2.ensures.items c.in_ok-push-3.ensures.items files c.in_ok-push-4.ensures.items
    c.in_ok-head_part.ensures c.in_ok-cluster_part.ensures choices folders
    ∙ sym (sections_are m)

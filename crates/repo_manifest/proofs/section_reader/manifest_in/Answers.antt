use Rattle.std.proofs.Common.{◌≡◌, [], ◌≤◌, ◌^◌, List, String, Global, map, sum_by, string_bytes, sym, ◌∙◌, subst}
use Rattle.std.specs.Prelude.{codes, Bool, true, false}
use Rattle.base_devices.specs.Order.{are_after}
use Rattle.base_model.specs.declared.files.FileEntry as rust
use Rattle.base_model.specs.Text.{Text, In}
use Rattle.base_model.specs.ManifestText.{HasItsFolders}
use Rattle.base_model.specs.Values.{FileEntry, Manifest, file_entry_of}
use Rattle.repo_ini.specs.Parts.{sections_of}
use Rattle.repo_keys.specs.Agree.{IsKeysOf}
use Rattle.std.proofs.lemmas.Result.{err_from_is_err_and}
use Rattle.repo_keys.specs.Foreign.{IsForeignKey}
use Rattle.repo_keys.proofs.Foreign.{foreign_as}
use Rattle.repo_keys.proofs.Forms.{form_wide}
use Rattle.repo_manifest.specs.Head.{manifest_with, manifest_names, choice_fields}
use Rattle.repo_manifest.specs.ManifestForm.{IsManifestForm}
use Rattle.repo_manifest.proofs.Foreign.{foreign_form}
use Rattle.repo_manifest.specs.Sections.{IsPlaced}
use Rattle.base_model.specs.declared.labels.Choices.{Choices}
use Rattle.repo_manifest.proofs.Chosen.{log_known}
use Rattle.repo_manifest.proofs.Ordered.{after_none}
use Rattle.repo_manifest.proofs.Whole.{Shows, same_sections}
use Rattle.repo_manifest.proofs.Joined.{is_manifest}
use Rattle.repo_manifest.proofs.section_reader.manifest_in.Goals as goal

pub returns-in_err-check_names-clause-fault : goal.returns-in_err-check_names-clause-fault
returns-in_err-check_names-clause-fault c =
    let ss = sections_of c.args.parts.now in
    let p = err_from_is_err_and c.from_residual.result c.from_residual.ensures.1 in
    rw (p.1, p.2)
    (form_wide c.in_err-check_names.field-0.0 (IsForeignKey manifest_names ss) (IsManifestForm ss) c.in_err-check_names.ensures.fault (foreign_as manifest_names ss (IsManifestForm ss) (foreign_form ss)))

pub choices_in-requires-clause-online : goal.choices_in-requires-clause-online
choices_in-requires-clause-online c = λ m rules agree.
    let o : Choices = record { bundle = false; delta = false } in
    let h : Manifest = manifest_with c.in_ok-head.head c.in_ok-cluster.cluster o [] [] in
    log_known (sections_of c.args.parts.now) c.requires h (c.in_ok-head.ensures.known c.in_ok-cluster.cluster o [] []) m rules agree ∙ sym c.is_some.ensures

pub check_paths-requires-clause-order : goal.check_paths-requires-clause-order
check_paths-requires-clause-order c =
    let ps = map string_bytes c.in_ok-folders.folders.items in
    subst (λ (xs : List (String Global)). are_after [] (map string_bytes xs) ≡ true) (sym c.deref-3.ensures.value) (after_none ps c.in_ok-folders.ensures.folders c.in_ok-folders.ensures.order)

pub returns-clause-valid : goal.returns-clause-valid
returns-clause-valid c =
    let files = c.in_ok-files.files.items in
    let folders = c.in_ok-folders.folders.items in
    let fs = map file_entry_of files in
    let ps = map string_bytes folders in
    let within = subst (λ (xs : List rust.FileEntry). sum_by (λ (e : FileEntry). e.size) (map file_entry_of xs) ≤ 2 ^ 63) c.deref.ensures.value c.in_ok-check_sizes.ensures.within in
    let all = c.in_ok-check_paths.ensures.files in
    let placed = subst (λ (xs : List rust.FileEntry). (e : FileEntry) → In e (map file_entry_of xs) → IsPlaced (map string_bytes c.deref-3.result.now) e) c.deref-2.ensures.value all in
    let sited = subst (λ (xs : List (String Global)). (e : FileEntry) → In e fs → IsPlaced (map string_bytes xs) e) c.deref-3.ensures.value placed in
    let below = subst (λ (xs : List (String Global)). (p : Text) → In p (map string_bytes xs) → HasItsFolders (map string_bytes xs) p) c.deref-3.ensures.value c.in_ok-check_paths.ensures.folders in
    is_manifest c.in_ok-head.head c.in_ok-cluster.cluster c.in_ok-choices.choices fs ps c.in_ok-head.ensures.rules c.in_ok-cluster.ensures.rules c.in_ok-files.ensures.files c.in_ok-folders.ensures.folders c.in_ok-files.ensures.order c.in_ok-folders.ensures.order within sited below

pub returns-clause-sections : goal.returns-clause-sections
returns-clause-sections c =
    let ss = sections_of c.args.parts.now in
    let h = c.in_ok-head.head in
    let cluster = c.in_ok-cluster.cluster in
    let choices = c.in_ok-choices.choices in
    let fs = map file_entry_of c.in_ok-files.files.items in
    let ps = map string_bytes c.in_ok-folders.folders.items in
    let m : Manifest = manifest_with h cluster choices fs ps in
    let shows : Shows m ss = record {
      backup = c.in_ok-head.ensures.known cluster choices fs ps;
      db = c.in_ok-cluster.ensures.known;
      option = subst (λ (b : Bool). IsKeysOf ss (codes "backup:option") (choice_fields choices b)) c.is_some.ensures c.in_ok-choices.ensures.known;
      files = c.in_ok-files.ensures.known;
      folders = c.in_ok-folders.ensures.known;
      names = c.in_ok-check_names.ensures.names;
    } in
    same_sections m ss (returns-clause-valid c) c.requires shows

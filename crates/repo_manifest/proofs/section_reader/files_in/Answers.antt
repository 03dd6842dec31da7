use Rattle.std.proofs.Common.{◌≡◌, List, Global, map, sym, subst}
use Rattle.base_devices.specs.Order.{are_in_order}
use Rattle.repo_keys.specs.Agree.{IsOrdered}
use Rattle.repo_manifest.proofs.Ordered.{files_ordered}
use Rattle.std.specs.Prelude.{true, Result, Ok, Err, IfOk, Vec}
use Rattle.base_model.specs.declared.files.FileEntry as rust
use Rattle.base_model.specs.InfoText.{Section}
use Rattle.base_model.specs.ManifestText.{file_field}
use Rattle.base_model.specs.Values.{FileEntry, file_entry_of}
use Rattle.repo_keys.specs.declared.fault.PartsFault.{PartsFault}
use Rattle.base_model.specs.Fields.{Field}
use Rattle.repo_ini.specs.Parts.{key_of, sections_of}
use Rattle.repo_keys.specs.Agree.{IsKeysOf}
use Rattle.repo_manifest.specs.Sections.{target_file, IsNoFile}
use Rattle.repo_manifest.specs.ManifestForm.{IsManifestForm}
use Rattle.repo_keys.proofs.Forms.{err_wide}
use Rattle.repo_manifest.proofs.Wrongs.{form_at, wrong_file}
use Rattle.repo_manifest.proofs.section_reader.files_in.Goals as goal

pub returns-clause-fault : goal.returns-clause-fault
returns-clause-fault c =
    let ss = sections_of c.args.parts.now in
    let ks = map key_of c.keys_at.result.now in
    err_wide c.files_of.result (λ s k. (s ≡ target_file) × IsNoFile ks k) (IsManifestForm ss) c.files_of.ensures.fault
    (λ s k h. form_at ss s target_file k h.0 (wrong_file ss c.requires ks c.keys_at.ensures.is k h.1))

known : (r : Result (Vec rust.FileEntry Global) PartsFault) (ss : List Section) (ks : List Field) → IsKeysOf ss target_file ks → IfOk r (λ v. map file_field (map file_entry_of v.items) ≡ ks) → IfOk r (λ v. IsKeysOf ss target_file (map file_field (map file_entry_of v.items)))
known (Ok v) ss ks of is = subst (IsKeysOf ss target_file) (sym is) of
known (Err e) ss ks of is = tt

pub returns-clause-known : goal.returns-clause-known
returns-clause-known c = known c.files_of.result (sections_of c.args.parts.now) (map key_of c.keys_at.result.now) c.keys_at.ensures.is c.files_of.ensures.keys

ordered : (r : Result (Vec rust.FileEntry Global) PartsFault) (ks : List Field) → IsOrdered ks → IfOk r (λ v. map file_field (map file_entry_of v.items) ≡ ks) → IfOk r (λ v. are_in_order (map (λ (e : FileEntry). e.path) (map file_entry_of v.items)) ≡ true)
ordered (Ok v) ks order is = files_ordered (map file_entry_of v.items) (subst IsOrdered (sym is) order)
ordered (Err e) ks order is = tt

pub returns-clause-order : goal.returns-clause-order
returns-clause-order c = ordered c.files_of.result (map key_of c.keys_at.result.now) c.keys_at.ensures.order c.files_of.ensures.keys

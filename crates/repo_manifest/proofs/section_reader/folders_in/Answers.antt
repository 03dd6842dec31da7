use Rattle.std.proofs.Common.{◌≡◌, List, ◌∷◌, String, Global, map, string_bytes, subst}
use Rattle.base_devices.specs.Order.{are_in_order}
use Rattle.repo_keys.specs.Agree.{IsOrdered}
use Rattle.repo_manifest.proofs.Ordered.{folders_ordered}
use Rattle.std.specs.Prelude.{true, Result, Ok, Err, IfOk, Vec}
use Rattle.base_model.specs.InfoText.{Section}
use Rattle.base_model.specs.ManifestText.{folder_field}
use Rattle.repo_keys.specs.declared.fault.PartsFault.{PartsFault}
use Rattle.base_model.specs.Fields.{Field}
use Rattle.repo_ini.specs.Parts.{key_of, sections_of}
use Rattle.repo_keys.specs.Agree.{IsKeysOf}
use Rattle.repo_manifest.specs.Sections.{target_path, root_field, IsNoFolder}
use Rattle.repo_manifest.specs.ManifestForm.{IsManifestForm}
use Rattle.repo_keys.proofs.Forms.{err_wide}
use Rattle.repo_manifest.proofs.Wrongs.{form_at, wrong_folder}
use Rattle.repo_manifest.proofs.section_reader.folders_in.Goals as goal

pub returns-clause-fault : goal.returns-clause-fault
returns-clause-fault c =
    let ss = sections_of c.args.parts.now in
    let ks = map key_of c.keys_at.result.now in
    err_wide c.folders_of.result (λ s k. (s ≡ target_path) × IsNoFolder ks k) (IsManifestForm ss) c.folders_of.ensures.fault
    (λ s k h. form_at ss s target_path k h.0 (wrong_folder ss c.requires ks c.keys_at.ensures.is k h.1))

known : (r : Result (Vec (String Global) Global) PartsFault) (ss : List Section) (ks : List Field) → IsKeysOf ss target_path ks → IfOk r (λ v. ks ≡ root_field ∷ map folder_field (map string_bytes v.items)) → IfOk r (λ v. IsKeysOf ss target_path (root_field ∷ map folder_field (map string_bytes v.items)))
known (Ok v) ss ks of is = subst (IsKeysOf ss target_path) is of
known (Err e) ss ks of is = tt

pub returns-clause-known : goal.returns-clause-known
returns-clause-known c = known c.folders_of.result (sections_of c.args.parts.now) (map key_of c.keys_at.result.now) c.keys_at.ensures.is c.folders_of.ensures.keys

ordered : (r : Result (Vec (String Global) Global) PartsFault) (ks : List Field) → IsOrdered ks → IfOk r (λ v. ks ≡ root_field ∷ map folder_field (map string_bytes v.items)) → IfOk r (λ v. are_in_order (map string_bytes v.items) ≡ true)
ordered (Ok v) ks order is = folders_ordered (map string_bytes v.items) (subst IsOrdered is order)
ordered (Err e) ks order is = tt

pub returns-clause-order : goal.returns-clause-order
returns-clause-order c = ordered c.folders_of.result (map key_of c.keys_at.result.now) c.keys_at.ensures.order c.folders_of.ensures.keys

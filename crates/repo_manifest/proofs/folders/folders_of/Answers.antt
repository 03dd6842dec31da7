use Rattle.std.proofs.Common.{◌≡◌, List, String, Global, map, take, drop, length, ◌-◌, sym, ap, subst}
use Rattle.std.specs.Prelude.{IsTrue}
use Rattle.serde_json.specs.declared.value.Value.{Value}
use Rattle.base_model.specs.Text.{Text}
use Rattle.base_model.specs.Fields.{Field}
use Rattle.repo_ini.specs.Parts.{key_of}
use Rattle.repo_keys.specs.Agree.{IsOrdered}
use Rattle.repo_keys.proofs.Seeking.{opened}
use Rattle.repo_manifest.specs.Sections.{target_path, root_field, IsNoFolder, IsNoDirectory, IsRootKey}
use Rattle.repo_keys.proofs.Forms.{form_wide, err_wide}
use Rattle.repo_manifest.proofs.Forms.{true_of, no_truth}
use Rattle.repo_manifest.proofs.Roots.{no_root, after_root, tail_is}
use Rattle.repo_manifest.proofs.folders.folders_of.Goals as goal

pub returns-then-not-is_root-clause-fault : goal.returns-then-not-is_root-clause-fault
returns-then-not-is_root-clause-fault c =
    let xs = c.args.keys.now in
    let root = c.root-item.result in
    let other : ¬ (key_of root ≡ root_field) = λ e. no_truth (subst IsTrue c.if-not-is_root.true (c.is_root.ensures.1 e)) in
    let is = ap (map key_of) (opened (λ (k : String Global × Value). k) xs 0 root c.in-len1-up.len_at_least c.root-item.is) in
    let more = map key_of (drop 1 xs) in
    form_wide c.fault_of_root.result (λ s k. (s ≡ target_path) × IsRootKey c.as_str.result.now k) (λ s k. (s ≡ target_path) × IsNoFolder (map key_of xs) k) c.fault_of_root.ensures
    (λ s k h. (h.0, subst (λ (ks : List Field). IsNoFolder ks k) (sym is) (no_root (key_of root) more (subst IsOrdered is c.requires) other k (subst (λ (n : Text). IsRootKey n k) c.as_str.ensures.value h.1))))

pub returns-clause-fault : goal.returns-clause-fault
returns-clause-fault c =
    let xs = c.args.keys.now in
    let root = c.root-item.result in
    let is = ap (map key_of) (opened (λ (k : String Global × Value). k) xs 0 root c.in-len1-up.len_at_least c.root-item.is) in
    let more = map key_of (drop 1 xs) in
    let one = c.is_root.ensures.0 (true_of c.if-not-is_root.false) in
    let cut = take (length xs - 1) (drop 1 xs) in
    let same : map key_of cut ≡ more = ap (map key_of) (tail_is xs c.in-len1-up.len_at_least) in
    err_wide c.more_of.result (λ s k. (s ≡ target_path) × IsNoDirectory (map key_of cut) k) (λ s k. (s ≡ target_path) × IsNoFolder (map key_of xs) k) c.more_of.ensures.fault
    (λ s k h. (h.0, subst (λ (ks : List Field). IsNoFolder ks k) (sym is) (after_root (key_of root) more (subst IsOrdered is c.requires) one k (subst (λ (ks : List Field). IsNoDirectory ks k) same h.1))))

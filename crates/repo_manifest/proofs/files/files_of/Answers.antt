use Rattle.std.proofs.Common.{◌≡◌, ◌≢◌, List, ◌∷◌, [], ◌++◌, ◌+◌, ℕ, map, drop, refl, sym, ap, ◌∙◌, subst}
use Rattle.std.specs.List.{AllByRecursion}
use Rattle.std.proofs.lemmas.List.{map-append}
use Rattle.serde_json.specs.View.{view}
use Rattle.base_model.specs.InfoText.{IsKey}
use Rattle.base_model.specs.Fields.{Field}
use Rattle.base_model.specs.ManifestText.{file_field}
use Rattle.base_model.specs.Values.{FileEntry, file_entry_of}
use Rattle.repo_ini.specs.Parts.{key_of}
use Rattle.repo_ini.proofs.Steps.{each_push}
use Rattle.repo_keys.proofs.Numbers.{all_in}
use Rattle.repo_keys.proofs.Read.{read_next}
use Rattle.repo_keys.proofs.Seeking.{here, whole_next}
use Rattle.repo_manifest.specs.Alone.{IsFile}
use Rattle.repo_manifest.specs.Sections.{target_file, IsNoFile}
use Rattle.repo_keys.proofs.Forms.{form_as}
use Rattle.repo_manifest.proofs.files.files_of.Goals as goal

pub read_file-requires : goal.read_file-requires
read_file-requires c =
    let xs = c.args.keys.now in
    let k = c.k-item.result in
    (all_in IsKey (map key_of xs) (key_of k) c.requires (here key_of xs c.loop-k.k-index k c.loop-k-test.true c.k-item.is c.loop-k.invariant.whole)).value

pub returns-in_default-clause-fault : goal.returns-in_default-clause-fault
returns-in_default-clause-fault c =
    let xs = c.args.keys.now in
    let k = c.k-item.result in
    let there = here key_of xs c.loop-k.k-index k c.loop-k-test.true c.k-item.is c.loop-k.invariant.whole in
    let none = rw c.in_default.is at c.in_ok-file.ensures.none in
    let alone = subst (λ (n : List ℕ). (e : FileEntry) → IsFile e → (let f : Field = (n, view k.1) in f) ≢ file_field e) c.as_str.ensures.value none in
    form_as c.form.result target_file c.as_str-in_default.result.now (λ section key. (section ≡ target_file) × IsNoFile (map key_of xs) key) c.form.ensures
    (refl, subst (IsNoFile (map key_of xs)) (sym c.as_str-in_default.ensures.value) (view k.1, there, alone))

pub loop-k-preserved : goal.loop-k-preserved
loop-k-preserved c =
    let xs = c.args.keys.now in
    let i = c.loop-k.k-index in
    let k = c.k-item.result in
    let e = file_entry_of c.in-Some.file in
    let es = map file_entry_of c.loop-k.files.items in
    let inv = c.loop-k.invariant in
    let rules = rw c.in-Some.is at c.in_ok-file.ensures.rules in
    let is = rw c.in-Some.is at c.in_ok-file.ensures.is in
    let same : key_of k ≡ file_field e = ap (λ (n : List ℕ). let f : Field = (n, view k.1) in f) (sym c.as_str.ensures.value) ∙ is in
    let more = sym (ap (map file_entry_of) c.in_ok-push.ensures.items ∙ map-append file_entry_of c.loop-k.files.items (c.in-Some.file ∷ [])) in
    record {
      rules = subst (AllByRecursion IsFile) more (each_push IsFile es e inv.rules rules);
      read = subst (λ (fs : List FileEntry). map file_field fs ++ map key_of (drop (i + 1) xs) ≡ map key_of xs) more (read_next key_of file_field es xs i k e c.loop-k-test.true c.k-item.is same inv.read);
      whole = whole_next key_of xs i k c.loop-k-test.true c.k-item.is inv.whole;
    }

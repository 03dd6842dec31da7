use Rattle.std.proofs.Common.{◌≡◌, ◌≢◌, List, ◌∷◌, [], ◌++◌, ◌+◌, ℕ, map, drop, string_bytes, refl, sym, ap, ◌∙◌, subst}
use Rattle.std.specs.List.{AllByRecursion}
use Rattle.std.proofs.lemmas.List.{map-append}
use Rattle.serde_json.specs.View.{view}
use Rattle.base_model.specs.Text.{Text}
use Rattle.base_model.specs.Fields.{Field}
use Rattle.base_model.specs.ManifestText.{folder_field}
use Rattle.repo_ini.specs.Parts.{key_of}
use Rattle.repo_ini.proofs.Steps.{each_push}
use Rattle.repo_keys.proofs.Read.{read_next}
use Rattle.repo_keys.proofs.Seeking.{here, whole_next}
use Rattle.repo_manifest.specs.Alone.{IsDirectory}
use Rattle.repo_manifest.specs.Sections.{target_path, IsNoDirectory}
use Rattle.repo_keys.proofs.Forms.{form_as}
use Rattle.repo_manifest.proofs.folders.more_of.Goals as goal

pub returns-in_default-clause-fault : goal.returns-in_default-clause-fault
returns-in_default-clause-fault c =
    let xs = c.args.keys.now in
    let k = c.k-item.result in
    let there = here key_of xs c.loop-k.k-index k c.loop-k-test.true c.k-item.is c.loop-k.invariant.whole in
    let none = c.in_default.ensures.none in
    let alone = subst (λ (n : List ℕ). (e : Text) → IsDirectory e → (let f : Field = (n, view k.1) in f) ≢ folder_field e) c.as_str.ensures.value none in
    form_as c.form.result target_path c.as_str-in_default.result.now (λ section key. (section ≡ target_path) × IsNoDirectory (map key_of xs) key) c.form.ensures
    (refl, subst (IsNoDirectory (map key_of xs)) (sym c.as_str-in_default.ensures.value) (view k.1, there, alone))

pub loop-k-preserved : goal.loop-k-preserved
loop-k-preserved c =
    let xs = c.args.keys.now in
    let i = c.loop-k.k-index in
    let k = c.k-item.result in
    let e = c.in-Some.path.now in
    let es = map string_bytes c.loop-k.folders.items in
    let inv = c.loop-k.invariant in
    let rules = c.in-Some.ensures.some.0 in
    let is = c.in-Some.ensures.some.1 in
    let same : key_of k ≡ folder_field e = ap (λ (n : List ℕ). let f : Field = (n, view k.1) in f) (sym c.as_str.ensures.value) ∙ is in
    let more = sym (ap (map string_bytes) c.in_ok-push.ensures.items ∙ map-append string_bytes c.loop-k.folders.items (c.in_ok-to_string.field-0 ∷ []) ∙ ap (λ (t : Text). es ++ t ∷ []) c.in_ok-to_string.ensures.ok) in
    record {
      rules = subst (AllByRecursion IsDirectory) more (each_push IsDirectory es e inv.rules rules);
      read = subst (λ (fs : List Text). map folder_field fs ++ map key_of (drop (i + 1) xs) ≡ map key_of xs) more (read_next key_of folder_field es xs i k e c.loop-k-test.true c.k-item.is same inv.read);
      whole = whole_next key_of xs i k c.loop-k-test.true c.k-item.is inv.whole;
    }

-- Sizes that pass their bound.
use Rattle.std.proofs.Common.{◌≡◌, inl, inr, ℕ, ◌<◌, ◌^◌, List, [], ◌∷◌, map, sum_by, refl, sym, ap, ◌∙◌, subst, arith}
use Rattle.std.specs.Prelude.{codes}
use Rattle.std.proofs.lemmas.List.Sums.{sum_by-cons, sum_by-append}
use Rattle.serde_json.specs.Find.{get}
use Rattle.base_model.specs.Text.{Text, In}
use Rattle.base_model.specs.InfoText.{Section, IsInfo, head_name}
use Rattle.base_model.specs.Fields.{Field}
use Rattle.base_model.specs.ManifestText.{data_path, file_field, manifest_sections}
use Rattle.base_model.specs.Values.{FileEntry}
use Rattle.repo_keys.specs.Agree.{IsKeysOf}
use Rattle.repo_keys.proofs.Scalars.{same_number}
use Rattle.repo_keys.proofs.Sorted.{unique}
use Rattle.repo_manifest.specs.Sections.{target_file, IsPast}
use Rattle.repo_manifest.specs.ManifestForm.{IsManifestForm}
use Rattle.repo_manifest.proofs.FileValues.{at_size, some_data}
use Rattle.repo_manifest.proofs.Named.{files_at}
use Rattle.repo_manifest.proofs.ManifestRules.{manifest_is_info}

abbrev size : FileEntry → ℕ
size e = e.size

same_size : (a b : FileEntry) → file_field a ≡ file_field b → a.size ≡ b.size
same_size a b e = same_number a.size b.size (some_data (sym (at_size a) ∙ ap (λ (k : Field). get (codes "size") k.1) e ∙ at_size b))

same_sizes : (xs ys : List FileEntry) → map file_field xs ≡ map file_field ys → sum_by size xs ≡ sum_by size ys
same_sizes [] [] e = refl
same_sizes [] (y ∷ ys) e = cc
same_sizes (x ∷ xs) [] e = cc
same_sizes (x ∷ xs) (y ∷ ys) e =
    let head : file_field x ≡ file_field y = cc in
    let rest : map file_field xs ≡ map file_field ys = cc in
    let one = same_size x y head in
    let more = same_sizes xs ys rest in
    let a = sum_by-cons size x xs in
    let b = sum_by-cons size y ys in
    omega (arith, one, more, a, b)

all_past : (files : List FileEntry) (e : FileEntry) → IsPast files e → 2 ^ 63 < sum_by size files
all_past files e h =
    let is = ap (sum_by size) h.is in
    let split = sum_by-append size h.prefix (e ∷ h.more) in
    let own = sum_by-cons size e h.more in
    let over = h.past in
    omega (arith, is, split, own, over)

same_keys : (ss : List Section) → IsInfo ss → (n : Text) (xs ys : List Field) → In (record { name = n; keys = xs }) ss → IsKeysOf ss n ys → xs ≡ ys
same_keys ss info n xs ys i (inl j) =
    let a : Section = record { name = n; keys = xs } in
    let b : Section = record { name = n; keys = ys } in
    ap (λ (s : Section). s.keys) (unique (λ (s : Section). s.name) head_name ss a b info.order i j refl)
same_keys ss info n xs ys i (inr none) = absurd (none.0 (record { name = n; keys = xs }) i refl)

no_past : (e : FileEntry) → IsPast [] e → ⊥
no_past e h = let x = all_past [] e h in omega (arith, x)

pub past_form : (ss : List Section) → IsInfo ss → (files : List FileEntry) → IsKeysOf ss target_file (map file_field files) → (e : FileEntry) → IsPast files e → (n key : Text) → n ≡ target_file → key ≡ data_path e.path → IsManifestForm ss n key
past_form ss info files (inr none) e past n key named at = absurd (empty files none.1 past)
  where
    empty : (fs : List FileEntry) → map file_field fs ≡ [] → IsPast fs e → ⊥
    empty [] h p = no_past e p
    empty (f ∷ fs) h p = cc h
past_form ss info files (inl i) e past n key named at = record {
  none = λ m rules same.
      let there = subst (λ (xs : List Section). In (record { name = target_file; keys = map file_field files }) xs) (sym same) i in
      let keys = same_keys (manifest_sections m) (manifest_is_info m rules) target_file (map file_field files) (map file_field m.files) there (files_at m) in
      let sizes = same_sizes files m.files keys in
      let over = all_past files e past in
      let bound = rules.sizes in
      omega (arith, sizes, over, bound);
  wrong = inr (record { files = files; known = i; last = e; past = past; named = named; at = at });
}

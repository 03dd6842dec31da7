use Rattle.std.proofs.Common.{◌≡◌, ◌<◌, true, List, [], ◌∷◌, String, Global, length, map, sym, subst, arith}
use Rattle.serde_json.specs.View.{view}
use Rattle.serde_json.specs.declared.value.Value.{Value}
use Rattle.base_model.specs.Text.{Text, In}
use Rattle.base_model.specs.InfoText.{has_keys}
use Rattle.repo_ini.specs.Parts.{key_of}
use Rattle.repo_keys.proofs.Seeking.{here}
use Rattle.repo_keys.proofs.foreign_sections.first_key.Goals as goal

abbrev Keys : Type 0
Keys = List (String Global × Value)

some_keys : (items : Keys) → has_keys (map key_of items) ≡ true → 0 < length items
some_keys [] h = cc h
some_keys (k ∷ ks) h = omega arith

pub index-k-requires : goal.index-k-requires
index-k-requires c =
    let p = c.args.part.now in
    omega (arith, some_keys p.keys.items c.requires.some, p.keys.ok.0)

pub returns : goal.returns
returns c =
    let p = c.args.part.now in
    let k = c.index-k.result.now in
    let there = here key_of p.keys.items 0 k (some_keys p.keys.items c.requires.some) c.index-k.ensures (λ y j. j) in
    (view k.1, subst (λ (n : Text). In (n, view k.1) (map key_of p.keys.items)) (sym c.as_str.ensures.value) there)

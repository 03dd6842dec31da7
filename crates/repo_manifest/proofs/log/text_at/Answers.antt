use Rattle.std.proofs.Common.{◌≡◌, ℕ, List, Option, Some, None, map, ap, ◌∙◌}
use Rattle.serde_json.specs.Data.{string}
use Rattle.serde_json.specs.Find.{as_str}
use Rattle.serde_json.specs.View.{view}
use Rattle.repo_ini.specs.Parts.{key_of}
use Rattle.repo_keys.proofs.Keyed.{same_value}
use Rattle.repo_manifest.proofs.log.text_at.Goals as goal

some : (a b : List ℕ) → ◌≡◌ {A = Option (List ℕ)} (Some a) (Some b) → a ≡ b
some a b e = cc

none : (b : List ℕ) → ◌≡◌ {A = Option (List ℕ)} None (Some b) → ⊥
none b e = cc

pub returns-in_default : goal.returns-in_default
returns-in_default c = λ t i. absurd (c.in_default.ensures.none (string t) i)

pub returns-in-None : goal.returns-in-None
returns-in-None c = λ t i.
    let ks = map key_of c.args.keys.now in
    let same = same_value ks c.args.key.now (view c.in-Some.value.now) (string t) c.requires c.in-Some.ensures.found i in
    absurd (none t (c.in-None.ensures ∙ ap as_str same))

pub returns-in-Some-as_str : goal.returns-in-Some-as_str
returns-in-Some-as_str c = λ t i.
    let ks = map key_of c.args.keys.now in
    let same = same_value ks c.args.key.now (view c.in-Some.value.now) (string t) c.requires c.in-Some.ensures.found i in
    some c.in-Some-as_str.text.now t (c.in-Some-as_str.ensures ∙ ap as_str same)

use Rattle.std.proofs.Common.{◌≡◌, Bool, Option, Some, None, map, ap, ◌∙◌}
use Rattle.serde_json.specs.Data.{boolean}
use Rattle.serde_json.specs.Find.{as_bool}
use Rattle.serde_json.specs.View.{view}
use Rattle.repo_ini.specs.Parts.{key_of}
use Rattle.repo_keys.proofs.Keyed.{same_value}
use Rattle.repo_manifest.proofs.option_section.truth_at.Goals as goal

some : (a b : Bool) → ◌≡◌ {A = Option Bool} (Some a) (Some b) → a ≡ b
some a b e = cc

none : (b : Bool) → ◌≡◌ {A = Option Bool} None (Some b) → ⊥
none b e = cc

pub returns-in_default : goal.returns-in_default
returns-in_default c = λ b i. absurd (c.in_default.ensures.none (boolean b) i)

pub returns-in-None : goal.returns-in-None
returns-in-None c = λ b i.
    let ks = map key_of c.args.keys.now in
    let same = same_value ks c.args.key.now (view c.in-Some.value.now) (boolean b) c.requires c.in-Some.ensures.found i in
    absurd (none b (c.in-None.ensures ∙ ap as_bool same))

pub returns-in-Some-as_bool : goal.returns-in-Some-as_bool
returns-in-Some-as_bool c = λ b i.
    let ks = map key_of c.args.keys.now in
    let same = same_value ks c.args.key.now (view c.in-Some.value.now) (boolean b) c.requires c.in-Some.ensures.found i in
    some c.in-Some-as_bool.truth b (c.in-Some-as_bool.ensures ∙ ap as_bool same)

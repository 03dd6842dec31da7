-- What the rules give a writer.
use Rattle.std.proofs.Common.{List, [], ◌∷◌, map, String}
use Rattle.std.specs.List.{AllByRecursion}
use Rattle.std.specs.declared.alloc.Global.{Global}
use Rattle.serde_json.specs.declared.value.Value.{Value}
use Rattle.base_model.specs.InfoText.{IsKey, IsSection, IsInfo}
use Rattle.repo_ini.specs.declared.part.Part.{Part}
use Rattle.repo_ini.specs.Parts.{NoFloats, key_of, sections_of}

keys_no_floats : (ks : List (String Global × Value)) → AllByRecursion IsKey (map key_of ks) → NoFloats ks
keys_no_floats [] h = tt
keys_no_floats (k ∷ ks) h = (h.0.value.no_float, keys_no_floats ks h.1)

sections_no_floats : (ps : List Part) → AllByRecursion IsSection (sections_of ps) → AllByRecursion (λ p. NoFloats p.keys.items) ps
sections_no_floats [] h = tt
sections_no_floats (p ∷ ps) h = (keys_no_floats p.keys.items h.0.keys, sections_no_floats ps h.1)

pub no_floats : (ps : List Part) → IsInfo (sections_of ps) → AllByRecursion (λ p. NoFloats p.keys.items) ps
no_floats ps h = sections_no_floats ps h.sections

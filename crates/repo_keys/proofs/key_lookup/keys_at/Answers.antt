use Rattle.std.proofs.Common.{List, String, Global, map, sym, subst}
use Rattle.std.specs.List.{AllByRecursion}
use Rattle.serde_json.specs.declared.value.Value.{Value}
use Rattle.base_model.specs.InfoText.{IsKey, IsSection}
use Rattle.repo_ini.specs.Parts.{key_of, section_of, sections_of}
use Rattle.repo_keys.specs.Agree.{IsOrdered}
use Rattle.repo_keys.proofs.Numbers.{all_in}
use Rattle.repo_keys.proofs.key_lookup.keys_at.Goals as goal

abbrev Keys : Type 0
Keys = List (String Global × Value)

pub returns-in-Some-clause-keys : goal.returns-in-Some-clause-keys
returns-in-Some-clause-keys c =
    let rules = all_in IsSection (sections_of c.args.parts.now) (section_of c.in-Some.part.now) c.requires.sections c.in-Some.ensures.found.0 in
    subst (λ (ks : Keys). AllByRecursion IsKey (map key_of ks)) (sym c.deref.ensures.value) rules.keys

pub returns-in-Some-clause-order : goal.returns-in-Some-clause-order
returns-in-Some-clause-order c =
    let rules = all_in IsSection (sections_of c.args.parts.now) (section_of c.in-Some.part.now) c.requires.sections c.in-Some.ensures.found.0 in
    subst (λ (ks : Keys). IsOrdered (map key_of ks)) (sym c.deref.ensures.value) rules.order

use Rattle.std.proofs.Common.{List, String, Global, ℕ, map, sym, subst}
use Rattle.std.proofs.lemmas.Result.{err_from_is_err_and}
use Rattle.serde_json.specs.View.{view}
use Rattle.serde_json.specs.declared.value.Value.{Value}
use Rattle.base_model.specs.Text.{In}
use Rattle.base_model.specs.InfoText.{IsKey}
use Rattle.repo_ini.specs.Parts.{key_of, keys_of}
use Rattle.repo_info.proofs.HistoryRules.{strange_here}
use Rattle.repo_keys.proofs.Numbers.{all_in}
use Rattle.repo_keys.proofs.Seeking.{here, whole_next}
use Rattle.repo_info.proofs.history.check_entries.Goals as goal

abbrev Keys : Type 0
Keys = List (String Global × Value)

pub check_entry-requires-clause-laws : goal.check_entry-requires-clause-laws
check_entry-requires-clause-laws g c = c.requires.laws

pub check_entry-requires-clause-value : goal.check_entry-requires-clause-value
check_entry-requires-clause-value g c =
    let i = c.loop-k.invariant in
    let k = c.k-item.result in
    let there = subst (λ (ks : Keys). In (key_of k) (map key_of ks)) i.items (here key_of _ c.loop-k.k-index k c.loop-k-test.true c.k-item.is i.whole) in
    (all_in IsKey (keys_of c.args.part.now) (key_of k) c.requires.rules.keys there).value

pub returns-in_err-check_entry : goal.returns-in_err-check_entry
returns-in_err-check_entry g c =
    let i = c.loop-k.invariant in
    let k = c.k-item.result in
    let there = subst (λ (ks : Keys). In (key_of k) (map key_of ks)) i.items (here key_of _ c.loop-k.k-index k c.loop-k-test.true c.k-item.is i.whole) in
    let given = subst (λ (n : List ℕ). In (n, view k.1) (keys_of c.args.part.now)) (sym c.as_str.ensures.value) there in
    let p = err_from_is_err_and c.from_residual.result c.from_residual.ensures.1 in
    rw (p.1, p.2) (strange_here g.C.Numbered.IsOne g.C.Numbered.number_of g.C.Numbered.field c.requires.laws c.args.current.now c.args.least (keys_of c.args.part.now) c.in_err-check_entry.field-0.0 c.as_str.result.now (view k.1) c.in_err-check_entry.ensures given)

pub loop-k-preserved : goal.loop-k-preserved
loop-k-preserved g c =
    let i = c.loop-k.invariant in
    record { items = i.items; whole = whole_next key_of _ c.loop-k.k-index c.k-item.result c.loop-k-test.true c.k-item.is i.whole }

use Rattle.std.proofs.Common.{◌≤◌, ⊎_elim, inl, inr, ◌∙◌, List, String, Global, ℕ, map, decimal, sym, ap, subst, arith}
use Rattle.std.proofs.lemmas.List.{length-map}
use Rattle.serde_json.specs.Data.{Data}
use Rattle.serde_json.specs.View.{view}
use Rattle.serde_json.specs.declared.value.Value.{Value}
use Rattle.base_model.specs.Text.{In}
use Rattle.base_model.specs.InfoText.{IsKey}
use Rattle.repo_ini.specs.Parts.{key_of, keys_of}
use Rattle.repo_info.proofs.HistoryRules.{missing, too_many, other_value, other_current, known}
use Rattle.repo_keys.proofs.Numbers.{all_in, unlike}
use Rattle.repo_info.proofs.history.cluster_at.Goals as goal

abbrev Keys : Type 0
Keys = List (String Global × Value)

pub read-requires : goal.read-requires
read-requires g c =
    let key = c.as_str-2.result.now in
    let d = view c.in-Some-find.value.now in
    let there = subst (λ (ks : Keys). In (key, d) (map key_of ks)) c.deref.ensures.value c.in-Some-find.ensures.found in
    (all_in IsKey (keys_of c.args.part.now) (key, d) c.requires.rules.keys there).value

pub returns-in_default-clause-fault : goal.returns-in_default-clause-fault
returns-in_default-clause-fault g c =
    let ks = keys_of c.args.part.now in
    let n = c.args.number in
    let given = c.as_str.ensures.value ∙ c.in_ok-key.ensures in
    let high = ⊎_elim (λ few. inl (subst (λ (m : ℕ). n ≤ m) (sym (length-map c.args.part.now.keys.items key_of)) few)) (λ few. inr few) c.requires.high in
    known g.C.Numbered.IsOne g.C.Numbered.number_of g.C.Numbered.field c.requires.laws c.args.current.now c.args.least ks c.form.result c.as_str.result.now (decimal n) c.form.ensures given (too_many g.C.Numbered.IsOne g.C.Numbered.number_of g.C.Numbered.field c.requires.laws c.args.current.now c.args.least ks n c.requires.low high (c.in_default.ensures.none c.requires.low))

pub returns-in_default-find-clause-fault : goal.returns-in_default-find-clause-fault
returns-in_default-find-clause-fault g c =
    let ks = keys_of c.args.part.now in
    let n = c.args.number in
    let key = c.as_str-2.ensures.value ∙ c.in_ok-key.ensures in
    let none = subst (λ (k : List ℕ). (d : Data) → ¬ In (k, d) ks) key (subst (λ (l : Keys). (d : Data) → ¬ In (c.as_str-2.result.now, d) (map key_of l)) c.deref.ensures.value c.in_default-find.ensures.none) in
    let given = c.as_str-in_default-find.ensures.value ∙ c.in_ok-key.ensures in
    let high = ⊎_elim (λ few. inl (subst (λ (m : ℕ). n ≤ m) (sym (length-map c.args.part.now.keys.items key_of)) few)) (λ few. inr few) c.requires.high in
    known g.C.Numbered.IsOne g.C.Numbered.number_of g.C.Numbered.field c.requires.laws c.args.current.now c.args.least ks c.form-in_default-find.result c.as_str-in_default-find.result.now (decimal n) c.form-in_default-find.ensures given (missing g.C.Numbered.IsOne g.C.Numbered.number_of g.C.Numbered.field c.requires.laws c.args.current.now c.args.least ks n c.requires.low high none)

pub returns-in_default-2-clause-fault : goal.returns-in_default-2-clause-fault
returns-in_default-2-clause-fault g c =
    let ks = keys_of c.args.part.now in
    let id = c.in-Some.id in
    let d = view c.in-Some-find.value.now in
    let number = ap decimal (sym c.in-Some.ensures.some.1) in
    let key = c.as_str-2.ensures.value ∙ c.in_ok-key.ensures ∙ number in
    let there = subst (λ (k : List ℕ). In (k, d) ks) key (subst (λ (l : Keys). In (c.as_str-2.result.now, d) (map key_of l)) c.deref.ensures.value c.in-Some-find.ensures.found) in
    let given = c.as_str-in_default-2.ensures.value ∙ c.in_ok-key.ensures ∙ number in
    known g.C.Numbered.IsOne g.C.Numbered.number_of g.C.Numbered.field c.requires.laws c.args.current.now c.args.least ks c.form-in_default-2.result c.as_str-in_default-2.result.now (decimal id) c.form-in_default-2.ensures given (other_value g.C.Numbered.IsOne g.C.Numbered.number_of g.C.Numbered.field c.requires.laws c.args.current.now c.args.least ks id d (omega arith) there (rw c.in_default-2.is at c.in_ok-cluster.ensures.none))

pub returns-then-not-is_same-clause-fault : goal.returns-then-not-is_same-clause-fault
returns-then-not-is_same-clause-fault g c =
    let ks = keys_of c.args.part.now in
    let e = c.in-Some-2.cluster in
    let d = view c.in-Some-find.value.now in
    let some = rw c.in-Some-2.is at c.in_ok-cluster.ensures.some in
    let number = ap decimal (sym (some.1 ∙ c.in-Some.ensures.some.1)) in
    let key = c.as_str-2.ensures.value ∙ c.in_ok-key.ensures ∙ number in
    let there = subst (λ (k : List ℕ). In (k, d) ks) key (subst (λ (l : Keys). In (c.as_str-2.result.now, d) (map key_of l)) c.deref.ensures.value c.in-Some-find.ensures.found) in
    let given = c.as_str-then-not-is_same.ensures.value ∙ c.in_ok-key.ensures ∙ number in
    known g.C.Numbered.IsOne g.C.Numbered.number_of g.C.Numbered.field c.requires.laws c.args.current.now c.args.least ks c.form-then-not-is_same.result c.as_str-then-not-is_same.result.now (decimal (g.C.Numbered.number_of e)) c.form-then-not-is_same.ensures given
    (other_current g.C.Numbered.IsOne g.C.Numbered.number_of g.C.Numbered.field c.requires.laws c.args.current.now c.args.least ks e d some.0 (some.1 ∙ c.if-id-number.true ∙ c.number.ensures) (unlike c.is_same.result c.is_same.ensures.1 c.if-not-is_same.true) some.2 there)

use Rattle.std.proofs.Common.{◌≡◌, ◌≢◌, ◌==◌, false, [], ◌∷◌, ◌++◌, Some, length, take, drop, sym, ◌∙◌, ap, subst, lit<, take-append-drop}
use Rattle.std.proofs.lemmas.Bool.{false≢true}
use Rattle.std.proofs.lemmas.List.{get_or_default}
use Rattle.std.proofs.lemmas.Str.Pattern.{drop_at_char, NoCharPasses-char}
use Rattle.std.specs.Prelude.{Contains}
use Rattle.base_devices.specs.Content.{Name}
use Rattle.memory_devices.proofs.Through.{one_prefix, has_slash}
use Rattle.memory_devices.proofs.below.first_folder.Goals as goal

pub returns-in_err-name-clause-first : goal.returns-in_err-name-clause-first
returns-in_err-name-clause-first c = λ x rest named e.
    let s = c.args.path.now in
    let has = has_slash x rest s e in
    absurd (NoCharPasses-char 47 s has.0 c.in_err-name.ensures.cases (lit< tt) has.1 (get_or_default s has.0 0 47 has.1 ∙ has.2))

pub returns-else-is_empty-clause-value : goal.returns-else-is_empty-clause-value
returns-else-is_empty-clause-value c =
    let s = c.args.path.now in
    let cases = c.in_ok-name.ensures.cases in
    let i = cases.0 in
    let some : c.in_ok-name.name.now ≢ [] = λ e. false≢true (subst (λ (l : Name). false ≡ (length l == 0)) e c.if-is_empty.ensures) in
    let none : Contains c.in_ok-name.name.now 47 → ⊥ = subst (λ (l : Name). Contains l 47 → ⊥) (sym cases.3) (λ has. NoCharPasses-char 47 (take i s) has.0 cases.2.0 (lit< tt) has.1 (get_or_default (take i s) has.0 0 47 has.1 ∙ has.2)) in
    (some, none)

pub returns-else-is_empty-clause-first : goal.returns-else-is_empty-clause-first
returns-else-is_empty-clause-first c = λ x rest named e.
    let s = c.args.path.now in
    let cases = c.in_ok-name.ensures.cases in
    let i = cases.0 in
    let j = cases.1 in
    let slash : drop i s ≡ 47 ∷ drop j s = drop_at_char 47 s i j cases.2.1 (lit< tt) in
    let whole : s ≡ take i s ++ 47 ∷ drop j s = sym (take-append-drop i s) ∙ ap (λ (l : Name). take i s ++ l) slash in
    let free : Contains (take i s) 47 → ⊥ = λ has. NoCharPasses-char 47 (take i s) has.0 cases.2.0 (lit< tt) has.1 (get_or_default (take i s) has.0 0 47 has.1 ∙ has.2) in
    ap (λ (l : Name). Some l) (cases.3 ∙ one_prefix (take i s) x (drop j s) rest free named.1 (sym whole ∙ e))
